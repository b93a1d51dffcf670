-- A per-agent execution is an execution under its own random source. So what holds for executions holds for per-agent
-- executions.
use Rattle.rand_core.specs.Stream as stream
use Rattle.is_rules.specs.declared.emitted.Issued as code
use Rattle.is_theorems.proofs.Common.{[], ◌++◌, ◌+◌, ◌==◌, ◌∙◌, ◌∷◌, ◌≡◌, ◌⊎◌, AcceptsSuccess, AddLocalCandidate, AddRemoteCandidate}
use Rattle.is_theorems.proofs.Common.{AgentRecord, all_scheduled, all_heard, ap, append_assoc, arith, at_request, Becomes, began_at, Bool}
use Rattle.is_theorems.proofs.Common.{BringsSuccess, Call, CandidateRecord, ChecksNext, ChecksTop, ControlsAlong, Emitted, entries_of}
use Rattle.is_theorems.proofs.Common.{Entry, Err, Execution, ExecutionRound, ExecutionRounds, ExecutionsSelect, false, fill_bytes}
use Rattle.is_theorems.proofs.Common.{HandleTimeout, Has, IceCreds, IceError, inl, inr, InvalidateCandidate, is_some, IsAnsweredRound}
use Rattle.is_theorems.proofs.Common.{IsControllingIn, IsRound, last_of, length, List, Logged, LoggedRound, MaintainsPairs, MatchBool}
use Rattle.is_theorems.proofs.Common.{MatchOption, MayCheck, None, NotCalled, Ok, Option, PairRecord, Path, path_of, PollEvent, PollTimeout}
use Rattle.is_theorems.proofs.Common.{PollTransmit, quiet, ReceivePacket, RecreateCandidatePairs, refl, request_at, RequestRecord}
use Rattle.is_theorems.proofs.Common.{RestartIce, Result, Run, RunsOn, SelectsAmong, ServesQueued, SetConsent, SetControlling}
use Rattle.is_theorems.proofs.Common.{SetControlTieBreaker, SetIceLite, SetInitialStunRto, SetLiteTimeout, SetLocalCredentials}
use Rattle.is_theorems.proofs.Common.{SetLocalPreference, SetMaxCandidatePairs, SetMaxCandidates, SetMaxDiscovered, SetMaxStunRetransmits, SetMaxStunRto}
use Rattle.is_theorems.proofs.Common.{SetMtu, SetProfile, SetRemoteCredentials, SetRenomination, SetTimingAdvance, SkipPairIds, Some, Step}
use Rattle.is_theorems.proofs.Common.{Stream, subst, sym, timeout_begun, TimesOut, true, with_retransmits, ℕ}
use Rattle.is_theorems.proofs.PollingRounds.AnsweredRoundsInLogs.{answered-rounds-select}
use Rattle.is_theorems.proofs.RuleEffects.EarlierAndNewPairs.{Has-push}

-- ---- a random source that returns these values, and continues as the other one

abbrev drawn_so : List ℕ → (List stream.Call → ℕ → List ℕ) → List stream.Call → ℕ → List ℕ
drawn_so id more [] n = id
drawn_so id more (c ∷ calls) n = more calls n

abbrev words_so : (List stream.Call → ℕ) → List stream.Call → ℕ
words_so more [] = 0
words_so more (c ∷ calls) = more calls

abbrev source : List ℕ → Stream → Stream
source id t = record { u32_after = words_so t.u32_after; u64_after = words_so t.u64_after; bytes_after = drawn_so id t.bytes_after }

gives_so : (id : List ℕ) (t : Stream) → (id, t) ≡ fill_bytes 12 (source id t)
unfolding fill_bytes
gives_so id t = refl

-- ---- lists

last_has : {X : Type 0} (xs : List X) (x : X) → Has (xs ++ x ∷ []) x
last_has [] x = inl refl
last_has (y ∷ xs) x = inr (last_has xs x)

pub front_has : {X : Type 0} (xs ys : List X) (x : X) → Has xs x → Has (xs ++ ys) x
front_has [] ys x has = absurd has
front_has (y ∷ xs) ys x (inl e) = inl e
front_has (y ∷ xs) ys x (inr h) = inr (front_has xs ys x h)

pub either_has : {X : Type 0} (xs ys : List X) (x : X) → Has (xs ++ ys) x → Has xs x ⊎ Has ys x
either_has [] ys x has = inr has
either_has (y ∷ xs) ys x (inl e) = inl (inl e)
either_has (y ∷ xs) ys x (inr h) = elim (either_has xs ys x h) [ inl k ↦ inl (inr k) | inr k ↦ inr k ]

module _ {P : Type 0} where
  -- ---- the entries of a per-agent execution in a log

  abbrev pub entry_of : List (Logged P) → Call P → Entry → Logged P
  entry_of before call e = record { number = length before; call = call; entry = e }

  -- newest first
  abbrev pub part_of : List (Logged P) → List (Call P × Entry) → List (Logged P)
  part_of before [] = []
  part_of before (x ∷ rest) = part_of (entry_of before x.0 x.1 ∷ before) rest ++ entry_of before x.0 x.1 ∷ []

  abbrev pub pushed : List (Logged P) → List (Call P × Entry) → List (Logged P)
  pushed before [] = before
  pushed before (x ∷ rest) = pushed (entry_of before x.0 x.1 ∷ before) rest

  part_has : (before : List (Logged P)) (xs : List (Call P × Entry)) (y : Call P × Entry) → Has xs y → (x : Logged P) × Has (part_of before xs) x × ((x.call, x.entry) ≡ y)
  part_has before [] y has = absurd has
  part_has before (x ∷ rest) y (inl is) = (entry_of before x.0 x.1, last_has (part_of (entry_of before x.0 x.1 ∷ before) rest) (entry_of before x.0 x.1), is)
  part_has before (x ∷ rest) y (inr has) =
      let k = part_has (entry_of before x.0 x.1 ∷ before) rest y has in
      (k.0, front_has (part_of (entry_of before x.0 x.1 ∷ before) rest) (entry_of before x.0 x.1 ∷ []) k.0 k.1, k.2)

  pub part_is : (before : List (Logged P)) (xs : List (Call P × Entry)) (x : Logged P) → Has (part_of before xs) x → Has xs (x.call, x.entry)
  part_is before [] x has = absurd has
  part_is before (y ∷ rest) x has = elim (Has-push (part_of (entry_of before y.0 y.1 ∷ before) rest) (entry_of before y.0 y.1) x has) [
    | inl k ↦ inr (part_is (entry_of before y.0 y.1 ∷ before) rest x k)
    | inr is ↦ inl (ap (λ (z : Logged P). (z.call, z.entry)) is)
  ]

  -- ---- its rounds, newest first

  abbrev pub round_of : List (Logged P) → ExecutionRound P → LoggedRound P
  round_of before r = record {
    following = part_of (entry_of before (HandleTimeout r.now) r.timeout ∷ before) r.following;
    timeout = entry_of before (HandleTimeout r.now) r.timeout;
    now = r.now;
  }

  abbrev pub rounds_of : List (Logged P) → List (LoggedRound P) → List (ExecutionRound P) → List (LoggedRound P)
  rounds_of before older [] = older
  rounds_of before older (r ∷ later) = rounds_of before (round_of (entries_of older ++ before) r ∷ older) later

  pub begun : (before : List (Logged P)) (x : LoggedRound P) (older : List (LoggedRound P)) (rounds : List (ExecutionRound P)) → began_at (rounds_of before (x ∷ older) rounds) ≡ began_at (x ∷ older)
  begun before x older [] = refl
  begun before x older (r ∷ later) = begun before (round_of (entries_of (x ∷ older) ++ before) r) (x ∷ older) later

  pub as_many : (before : List (Logged P)) (older : List (LoggedRound P)) (rounds : List (ExecutionRound P)) → length (rounds_of before older rounds) ≡ length older + length rounds
  as_many before older [] = omega arith
  as_many before older (r ∷ later) =
      let k = as_many before (round_of (entries_of older ++ before) r ∷ older) later in omega (arith, k)

  is_round : (by : ℕ) (path : Path) (before : List (Logged P)) (r : ExecutionRound P) → IsAnsweredRound by path r → IsRound by path (round_of before r)
  is_round by path before r round = record {
    comes = refl;
    done = round.done;
    late = round.late;
    early = round.early;
    between = λ x has. round.between (x.call, x.entry) (part_is (entry_of before (HandleTimeout r.now) r.timeout ∷ before) r.following x has);
    met = λ id out. (
        let m = round.met id out in
        let k = part_has (entry_of before (HandleTimeout r.now) r.timeout ∷ before) r.following m.0 m.1 in
        (k.0, k.1, subst (λ (y : Call P × Entry). AcceptsSuccess y.0 y.1) (sym k.2) m.2));
  }

  are_rounds : (by : ℕ) (path : Path) (before : List (Logged P)) (older : List (LoggedRound P)) (rounds : List (ExecutionRound P)) → ((r : LoggedRound P) → Has older r → IsRound by path r)
      → ((r : ExecutionRound P) → Has rounds r → IsAnsweredRound by path r) → (r : LoggedRound P) → Has (rounds_of before older rounds) r → IsRound by path r
  are_rounds by path before older [] were are r has = were r has
  are_rounds by path before older (x ∷ later) were are r has =
      are_rounds by path before (round_of (entries_of older ++ before) x ∷ older) later
      (λ y there. elim there [
        | inl is ↦ subst (λ (z : LoggedRound P). IsRound by path z) is (is_round by path (entries_of older ++ before) x (are x (inl refl)))
        | inr k ↦ were y k
      ])
      (λ y there. are y (inr there)) r has

  more_among : (x : ExecutionRound P) (rounds : List (ExecutionRound P)) → SelectsAmong rounds → SelectsAmong (x ∷ rounds)
  more_among x rounds (r, has, rest) = (r, inr has, rest)

  -- what selects in the rounds of the log also does so in those of the per-agent execution
  among : (before : List (Logged P)) (older : List (LoggedRound P)) (rounds : List (ExecutionRound P)) (x : Logged P) → Has (entries_of (rounds_of before older rounds)) x → BringsSuccess x
      → is_some (last_of x.entry.emitted.selected_paths) ≡ true → SelectsAmong rounds ⊎ Has (entries_of older) x
  among before older [] x has success emitted = inr has
  among before older (r ∷ later) x has success emitted =
      elim (among before (round_of (entries_of older ++ before) r ∷ older) later x has success emitted) [
        | inl k ↦ inl (more_among r later k)
        | inr k ↦ elim (either_has (round_of (entries_of older ++ before) r).following (entry_of (entries_of older ++ before) (HandleTimeout r.now) r.timeout ∷ entries_of older) x k) [
          | inl following ↦
              inl (r, inl refl, ((x.call, x.entry), part_is (entry_of (entries_of older ++ before) (HandleTimeout r.now) r.timeout ∷ (entries_of older ++ before)) r.following x following, success, emitted))
          | inr (inl is) ↦ absurd (subst (λ (y : Logged P). BringsSuccess y) (sym is) success).3
          | inr (inr was) ↦ inr was
        ]
      ]

module _ {H P : Type 0} (mac : H → List ℕ → List ℕ → List ℕ) (answers : P → CandidateRecord → ℕ → ℕ → Type 0) where
  -- ---- a step with another random source

  abbrev pub Recomputed : Call P → Entry → AgentRecord H P → AgentRecord H P → Stream → Type 0
  Recomputed call e old new t = (s : Stream) × Step mac answers old s call e new t

  recomputed_top : (now : ℕ) (remote : IceCreds) (old new : AgentRecord H P) (s t u : Stream) (issued : Option code.Issued) (top : Option PairRecord)
      → ChecksTop mac now remote top old s issued new t → (v : Stream) × ChecksTop mac now remote top old v issued new u
  recomputed_top now remote old new s t u issued None (none, made, drawn) = (u, (none, made, refl))
  recomputed_top now remote old new s t u issued (Some p) (id, drawn, values, is, made) = (source id u, (id, gives_so id u, values, is, made))

  recomputed_check : (now : ℕ) (remote : Option IceCreds) (old new : AgentRecord H P) (s t u : Stream) (issued : Option code.Issued)
      → MayCheck mac now remote old s issued new t → (v : Stream) × MayCheck mac now remote old v issued new u
  recomputed_check now None old new s t u issued (none, made, drawn) = (u, (none, made, refl))
  recomputed_check now (Some remote) old new s t u issued h = by old.lite h where
    by : (b : Bool) → MatchBool b ((issued ≡ None) × (new ≡ all_heard now old) × (t ≡ s)) (ChecksNext mac now remote (all_scheduled now old) s issued new t)
        → (v : Stream) × MatchBool b ((issued ≡ None) × (new ≡ all_heard now old) × (u ≡ v)) (ChecksNext mac now remote (all_scheduled now old) v issued new u)
    by true (none, made, drawn) = (u, (none, made, refl))
    by false (next, due, checks) = let k = recomputed_top now remote (all_scheduled now old) new s t u issued next checks in (k.0, (next, due, k.1))

  recomputed_timeout : (now : ℕ) (old new : AgentRecord H P) (s t u : Stream) (r : Result (Unit {0}) IceError) (emitted : Emitted) → TimesOut mac now old s r emitted new t
      → (v : Stream) × TimesOut mac now old v r emitted new u
  recomputed_timeout now old new s t u (Err error) emitted (may, is, made, drawn) = (u, (may, is, made, refl))
  recomputed_timeout now old new s t u (Ok done) emitted h = by (request_at now old) h where
    by : (o : Option RequestRecord) → MatchOption o (MaintainsPairs mac now (timeout_begun now old) s emitted new t) (λ q. ServesQueued mac q (at_request now (timeout_begun now old)) s emitted new t)
        → (v : Stream) × MatchOption o (MaintainsPairs mac now (timeout_begun now old) v emitted new u) (λ q. ServesQueued mac q (at_request now (timeout_begun now old)) v emitted new u)
    by None (first, second, issued, named, kept, nominating, giving, checking, is) =
        let k = recomputed_check now kept.remote_creds kept new s t u issued checking in (k.0, (first, second, issued, named, kept, nominating, giving, k.1, is))
    by (Some q) (serving, drawn) = (u, (serving, refl))

  pub recomputed : (call : Call P) (e : Entry) (old new : AgentRecord H P) (s t u : Stream) → Step mac answers old s call e new t → Recomputed call e old new u
  recomputed (SetMtu target warn) e old new s t u (r, is, does, drawn) = (u, (r, is, does, refl))
  recomputed (SetControlTieBreaker tie) e old new s t u (is, made, drawn) = (u, (is, made, refl))
  recomputed (SetMaxCandidatePairs n) e old new s t u (is, made, drawn) = (u, (is, made, refl))
  recomputed (SetMaxDiscovered n) e old new s t u (is, made, drawn) = (u, (is, made, refl))
  recomputed (SetMaxCandidates n) e old new s t u (is, made, drawn) = (u, (is, made, refl))
  recomputed (SetIceLite lite) e old new s t u (is, made, drawn) = (u, (is, made, refl))
  recomputed (SetRenomination on) e old new s t u (is, made, drawn) = (u, (is, made, refl))
  recomputed (SetProfile profile) e old new s t u (is, made, drawn) = (u, (is, made, refl))
  recomputed (SetConsent consent) e old new s t u (is, made, drawn) = (u, (is, made, refl))
  recomputed (SetTimingAdvance by) e old new s t u (is, made, drawn) = (u, (is, made, refl))
  recomputed (SetInitialStunRto rto) e old new s t u (is, made, drawn) = (u, (is, made, refl))
  recomputed (SetMaxStunRto rto) e old new s t u (is, made, drawn) = (u, (is, made, refl))
  recomputed (SetMaxStunRetransmits n) e old new s t u h = (u, by (n == 0) h) where
    by : (b : Bool) → MatchBool b ((e ≡ quiet NotCalled) × (new ≡ old) × (t ≡ s)) (Becomes (with_retransmits n old) s e new t)
        → MatchBool b ((e ≡ quiet NotCalled) × (new ≡ old) × (u ≡ u)) (Becomes (with_retransmits n old) u e new u)
    by true (is, made, drawn) = (is, made, refl)
    by false (is, made, drawn) = (is, made, refl)
  recomputed (SetLiteTimeout by) e old new s t u (is, made, drawn) = (u, (is, made, refl))
  recomputed (SetLocalPreference object) e old new s t u (is, made, drawn) = (u, (is, made, refl))
  recomputed (SetControlling controlling) e old new s t u (is, made, drawn) = (u, (is, made, refl))
  recomputed (SetLocalCredentials creds) e old new s t u (r, is, does, drawn) = (u, (r, is, does, refl))
  recomputed (SetRemoteCredentials creds) e old new s t u (r, is, does, drawn) = (u, (r, is, does, refl))
  recomputed (SkipPairIds n) e old new s t u (is, made, drawn) = (u, (is, made, refl))
  recomputed (AddLocalCandidate c) e old new s t u (r, emitted, is, does, drawn) = (u, (r, emitted, is, does, refl))
  recomputed (AddRemoteCandidate c) e old new s t u (r, emitted, is, does, drawn) = (u, (r, emitted, is, does, refl))
  recomputed (InvalidateCandidate c) e old new s t u (r, emitted, is, does, drawn) = (u, (r, emitted, is, does, refl))
  recomputed (RestartIce creds keep) e old new s t u (r, is, does, drawn) = (u, (r, is, does, refl))
  recomputed RecreateCandidatePairs e old new s t u (r, is, does, drawn) = (u, (r, is, does, refl))
  recomputed (ReceivePacket now path bytes) e old new s t u (receives, drawn) = (u, (receives, refl))
  recomputed (HandleTimeout now) e old new s t u (r, emitted, is, times) = let k = recomputed_timeout now old new s t u r emitted times in (k.0, (r, emitted, is, k.1))
  recomputed PollTransmit e old new s t u (given, is, polled, drawn) = (u, (given, is, polled, refl))
  recomputed PollTimeout e old new s t u (deadline, is, polled, drawn) = (u, (deadline, is, polled, refl))
  recomputed PollEvent e old new s t u (given, is, polled, drawn) = (u, (given, is, polled, refl))

  -- ---- executions, from the end backwards

  -- an execution that leaves this source
  abbrev pub Leads : AgentRecord H P → List (Logged P) → AgentRecord H P → Type 0
  Leads first log last = (t : Stream) → (s : Stream) × Run mac answers first s log last t

  pub leads_on : (first : AgentRecord H P) (xs : List (Call P × Entry)) (before : List (Logged P)) (old new : AgentRecord H P) → Leads first before old → Execution mac answers xs old new
      → Leads first (pushed before xs) new
  leads_on first [] before old new led is = subst (λ (a : AgentRecord H P). Leads first before a) (sym is) led
  leads_on first (x ∷ rest) before old new led (mid, s, t, based, step, more) =
      leads_on first rest (entry_of before x.0 x.1 ∷ before) mid new
      (λ u. (let k = recomputed x.0 x.1 old mid s t u step in let r = led k.0 in (r.0, (old, k.0, r.1, refl, based, k.1)))) more

  -- a segment in which the agent is controlling
  abbrev Held : List (Logged P) → AgentRecord H P → Stream → List (Logged P) → AgentRecord H P → Stream → Type 0
  Held before start s part last t = (run : RunsOn mac answers before start s part last t) × IsControllingIn mac answers before start s part last t run

  abbrev Holds : List (Logged P) → AgentRecord H P → List (Logged P) → AgentRecord H P → Type 0
  Holds before start part last = (t : Stream) → (s : Stream) × Held before start s part last t

  join : (before one two : List (Logged P)) (start mid last : AgentRecord H P) (s u t : Stream) → Held before start s one mid u → Held (one ++ before) mid u two last t
      → Held before start s (two ++ one) last t
  join before one [] start mid last s u t h ((is, same), role) =
      subst (λ (a : AgentRecord H P). Held before start s one a t) (sym is) (subst (λ v. Held before start s one mid v) (sym same) h)
  join before one (x ∷ two) start mid last s u t h ((m, v, run, number, based, step), role) =
      let k = join before one two start mid m s u v h (run, role.1) in
      ((m, v, k.0, number ∙ ap length (sym (append_assoc two one before)), based, step), (role.0, k.1))

  holds_execution : (xs : List (Call P × Entry)) (before : List (Logged P)) (old new : AgentRecord H P) → old.controlling ≡ true → (execution : Execution mac answers xs old new)
      → ControlsAlong mac answers xs old new execution → Holds before old (part_of before xs) new
  holds_execution [] before old new role is along t = (t, ((is, refl), ap (λ (a : AgentRecord H P). a.controlling) is ∙ role))
  holds_execution (x ∷ rest) before old new role (mid, s, t, based, step, more) along u =
      let k = holds_execution rest (entry_of before x.0 x.1 ∷ before) mid new along.0 more along.1 u in
      let a = recomputed x.0 x.1 old mid s t k.0 step in (
        a.0,
        join before (entry_of before x.0 x.1 ∷ []) (part_of (entry_of before x.0 x.1 ∷ before) rest) old mid new a.0 k.0 u
            ((old, a.0, (refl, refl), refl, based, a.1), (along.0, role)) k.1,
      )

  holds_rounds : (rounds : List (ExecutionRound P)) (before : List (Logged P)) (older : List (LoggedRound P)) (start old new : AgentRecord H P) → Holds before start (entries_of older) old
      → ExecutionRounds mac answers rounds old new → Holds before start (entries_of (rounds_of before older rounds)) new
  holds_rounds [] before older start old new held is = subst (λ (a : AgentRecord H P). Holds before start (entries_of older) a) (sym is) held
  holds_rounds (r ∷ later) before older start old new held (mid, next, s, t, step, role, execution, along, more) =
      holds_rounds later before (round_of (entries_of older ++ before) r ∷ older) start next new one more where
        timeout : Logged P
        timeout = entry_of (entries_of older ++ before) (HandleTimeout r.now) r.timeout

        one : Holds before start (entries_of (round_of (entries_of older ++ before) r ∷ older)) next
        one u =
            let k = holds_execution r.following (timeout ∷ (entries_of older ++ before)) mid next role execution along u in
            let a = recomputed (HandleTimeout r.now) r.timeout old mid s t k.0 step in
            let h = held a.0 in (
              h.0,
              join before (timeout ∷ entries_of older) (part_of (timeout ∷ (entries_of older ++ before)) r.following) start mid next h.0 k.0 u
                  ((old, a.0, h.1.0, refl, tt, a.1), (role, h.1.1)) k.1,
            )

  pub executions-select : ExecutionsSelect mac answers
  executions-select first start last xs r rounds p by fresh execution role waits unanswered chain are enough =
      let before : List (Logged P) = pushed [] xs in
      let all : List (LoggedRound P) = rounds_of before [] (r ∷ rounds) in
      let any : Stream = record { u32_after = λ cs. 0; u64_after = λ cs. 0; bytes_after = λ cs n. [] } in
      let held = holds_rounds (r ∷ rounds) before [] start start last (λ t. (t, ((refl, refl), role))) chain any in
      let led = leads_on first xs [] first start (λ t. (t, (refl, refl))) execution held.0 in
      let said = answered-rounds-select mac answers first led.0 (entries_of all ++ before) fresh before start last all p r.now by
      (record { rest = []; split = refl; at = held.0; led = led.1; following = any; run = held.1.0 })
      (begun before (round_of ([] ++ before) r) [] rounds) waits unanswered
      (are_rounds by (path_of start p) before [] (r ∷ rounds) (λ x none. absurd none) are) held.1.1
      (let many = as_many before [] (r ∷ rounds) in omega (arith, many, enough)) in
      elim (among before [] (r ∷ rounds) said.3 said.5 said.6 said.7) [ inl k ↦ k | inr none ↦ absurd none ]

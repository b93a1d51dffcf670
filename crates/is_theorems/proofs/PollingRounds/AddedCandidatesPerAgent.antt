-- Rounds of an execution in which candidates may be added, as rounds of a log.
use Rattle.is_theorems.proofs.Common.{[], ◌*◌, ◌++◌, ◌+◌, ◌<◌, ◌∙◌, ◌∷◌, ◌≡◌, ◌≤◌, ◌⊎◌, AgentRecord, ap, append_assoc, AreInRound, arith}
use Rattle.is_theorems.proofs.Common.{Bool, Call, CandidateRecord, checks_for, ChecksAmong, ChecksIn, Done, Ends, EndsAlong, EndsAmong}
use Rattle.is_theorems.proofs.Common.{entries_of, Entry, Execution, ExecutionRound, ExecutionsReachFromDue, ExecutionsReachUnanswered}
use Rattle.is_theorems.proofs.Common.{false, GivesBased, HandleTimeout, Has, inl, inr, is_modern, IsAnsweredAmong, IsAnsweredIn}
use Rattle.is_theorems.proofs.Common.{IsAnsweredOn, IsEndedIn, IsFresh, IsLasting, IsOpenRound, IsPassing, IsReached, IsReachedIn, IsSound}
use Rattle.is_theorems.proofs.Common.{length, List, Logged, LoggedRound, MAX, nominations_ahead, numbers, OpenExecutionsReach, PairRecord}
use Rattle.is_theorems.proofs.Common.{Part, PassRounds, Path, path_of, refl, RoundsSuffice, Run, RunsOn, selections_among, Step, Stream}
use Rattle.is_theorems.proofs.Common.{subst, Suffices, SufficesFromDue, sym, true, ℕ}
use Rattle.is_theorems.proofs.ExecutionLogs.PerAgentExecutions.{entry_of, part_of, pushed, part_is, round_of, rounds_of, begun, as_many}
use Rattle.is_theorems.proofs.ExecutionLogs.PerAgentExecutions.{either_has, recomputed, leads_on}
use Rattle.is_theorems.proofs.ExecutionLogs.LogSegments.{no-case, run-on}
use Rattle.is_theorems.proofs.CallEffects.FailedCallsAndNewAgents.{fresh_sound}
use Rattle.is_theorems.proofs.DuePairs.NoNominationDue.{due-none}
use Rattle.is_theorems.proofs.DuePairs.NominationsAhead.{to_select, to_send}
use Rattle.is_theorems.proofs.PollingRounds.CountedSelections.{among-nothing, among-within, paid, paid_among, paid-rounds}
use Rattle.is_theorems.proofs.PollingRounds.DuePairsInLogs.{reached-unless}
use Rattle.is_theorems.proofs.PollingRounds.FirstRound.{due-unless}
use Rattle.is_theorems.proofs.PollingRounds.InTurnAlong.{Accepts, InTurn, IsNumbered, IsQuiet, Lined, Never, OffIn, lined, lined-unanswered}
use Rattle.is_theorems.proofs.PollingRounds.InTurnAlong.{no_agent, no_call, numbered-in-turn, quiet-in-turn}
use Rattle.is_theorems.proofs.StoredPairs.TransactionsOverPackets.{sound-execution}

module _ {P : Type 0} where
  -- ---- rounds of an execution, as those of a log

  is_passing : (m : Bool) (by : ℕ) (before : List (Logged P)) (r : ExecutionRound P) → IsOpenRound m by r → IsPassing m by (round_of before r)
  is_passing m by before r round = record {
    comes = refl;
    done = (let done = round.done in search done);
    late = (let late = round.late in omega (arith, late));
    early = (let early = round.early in omega (arith, early));
    between = λ x has. round.between (x.call, x.entry) (part_is (entry_of before (HandleTimeout r.now) r.timeout ∷ before) r.following x has);
  }

  pub are_passing : (m : Bool) (by : ℕ) (before : List (Logged P)) (older : List (LoggedRound P)) (rounds : List (ExecutionRound P)) → ((r : LoggedRound P) → Has older r → IsPassing m by r)
      → ((r : ExecutionRound P) → Has rounds r → IsOpenRound m by r) → (r : LoggedRound P) → Has (rounds_of before older rounds) r → IsPassing m by r
  are_passing m by before older [] were are r has = were r has
  are_passing m by before older (x ∷ later) were are r has =
      are_passing m by before (round_of (entries_of older ++ before) x ∷ older) later
      (λ y there. elim there [
        | inl is ↦ subst (λ (z : LoggedRound P). IsPassing m by z) is (is_passing m by (entries_of older ++ before) x (are x (inl refl)))
        | inr k ↦ were y k
      ])
      (λ y there. are y (inr there)) r has

  pub are_at : (Q : ℕ → Type 0) (before : List (Logged P)) (older : List (LoggedRound P)) (rounds : List (ExecutionRound P)) → ((r : LoggedRound P) → Has older r → Q r.now)
      → ((r : ExecutionRound P) → Has rounds r → Q r.now) → (r : LoggedRound P) → Has (rounds_of before older rounds) r → Q r.now
  are_at Q before older [] were are r has = were r has
  are_at Q before older (x ∷ later) were are r has =
      are_at Q before (round_of (entries_of older ++ before) x ∷ older) later
      (λ y there. elim there [
        | inl is ↦ subst (λ (z : LoggedRound P). Q z.now) is (are x (inl refl))
        | inr k ↦ were y k
      ])
      (λ y there. are y (inr there)) r has

  checks-later : (x : ExecutionRound P) (rounds : List (ExecutionRound P)) (path : Path) → ChecksAmong rounds path → ChecksAmong (x ∷ rounds) path
  checks-later x rounds path (r, id, has, out) = (r, id, inr has, out)

  answered-later : (x : ExecutionRound P) (rounds : List (ExecutionRound P)) (path : Path) → IsAnsweredAmong rounds path → IsAnsweredAmong (x ∷ rounds) path
  answered-later x rounds path (r, has, is) = (r, inr has, is)

  checks_among : (before : List (Logged P)) (older : List (LoggedRound P)) (rounds : List (ExecutionRound P)) (path : Path) → ChecksIn (rounds_of before older rounds) path
      → ChecksAmong rounds path ⊎ ChecksIn older path
  checks_among before older [] path checks = inr checks
  checks_among before older (r ∷ later) path checks =
      elim (checks_among before (round_of (entries_of older ++ before) r ∷ older) later path checks) [
        | inl k ↦ inl (checks-later r later path k)
        | inr (x, id, inl is, out) ↦ inl (r, id, inl refl, ap (λ (y : LoggedRound P). y.timeout.entry.emitted.issued) is ∙ out)
        | inr (x, id, inr has, out) ↦ inr (x, id, has, out)
      ]

  -- one of the calls of the rounds turns it off
  abbrev pub OffAmong : (Call P → Entry → Type 0) → List (ExecutionRound P) → Type 0
  OffAmong Off rounds = (r : ExecutionRound P) × Has rounds r × ((x : Call P × Entry) × Has r.following x × Off x.0 x.1)

  off_among : (Off : Call P → Entry → Type 0) → ((now : ℕ) (e : Entry) → Off (HandleTimeout now) e → ⊥) → (before : List (Logged P)) (older : List (LoggedRound P)) (rounds : List (ExecutionRound P))
      → OffIn Off (entries_of (rounds_of before older rounds)) → OffAmong Off rounds ⊎ OffIn Off (entries_of older)
  off_among Off apart before older [] off = inr off
  off_among Off apart before older (r ∷ later) off =
      elim (off_among Off apart before (round_of (entries_of older ++ before) r ∷ older) later off) [
        | inl (x, has, is) ↦ inl (x, inr has, is)
        | inr (x, has, is) ↦ elim (either_has (round_of (entries_of older ++ before) r).following (entry_of (entries_of older ++ before) (HandleTimeout r.now) r.timeout ∷ entries_of older) x has) [
          | inl following ↦
              inl (r, inl refl, ((x.call, x.entry), part_is (entry_of (entries_of older ++ before) (HandleTimeout r.now) r.timeout ∷ (entries_of older ++ before)) r.following x following, is))
          | inr (inl same) ↦ absurd (apart r.now r.timeout (subst (λ (y : Logged P). Off y.call y.entry) (sym same) is))
          | inr (inr was) ↦ inr (x, was, is)
        ]
      ]

  answered_among : (before : List (Logged P)) (older : List (LoggedRound P)) (rounds : List (ExecutionRound P)) (path : Path) → IsAnsweredIn (entries_of (rounds_of before older rounds)) path
      → IsAnsweredAmong rounds path ⊎ IsAnsweredIn (entries_of older) path
  answered_among before older [] path answered = inr answered
  answered_among before older (r ∷ later) path answered =
      elim (answered_among before (round_of (entries_of older ++ before) r ∷ older) later path answered) [
        | inl k ↦ inl (answered-later r later path k)
        | inr (x, has, is) ↦ elim (either_has (round_of (entries_of older ++ before) r).following (entry_of (entries_of older ++ before) (HandleTimeout r.now) r.timeout ∷ entries_of older) x has) [
          | inl following ↦
              inl (r, inl refl, ((x.call, x.entry), part_is (entry_of (entries_of older ++ before) (HandleTimeout r.now) r.timeout ∷ (entries_of older ++ before)) r.following x following, is))
          | inr (inl same) ↦ absurd (subst (λ (y : Logged P). IsAnsweredOn y path) (sym same) is).3
          | inr (inr was) ↦ inr (x, was, is)
        ]
      ]

module _ {H P : Type 0} (mac : H → List ℕ → List ℕ → List ℕ) (answers : P → CandidateRecord → ℕ → ℕ → Type 0) where
  -- ---- segments that may remove a pair of the path only if this does

  module _ (Gone : Type 0) (path : Path) where
    abbrev Held : List (Logged P) → AgentRecord H P → Stream → List (Logged P) → AgentRecord H P → Stream → Type 0
    Held before start s part last t = (run : RunsOn mac answers before start s part last t) × (IsEndedIn mac answers before start s part last t run path → Gone)

    abbrev Holds : List (Logged P) → AgentRecord H P → List (Logged P) → AgentRecord H P → Type 0
    Holds before start part last = (t : Stream) → (s : Stream) × Held before start s part last t

    join : (before one two : List (Logged P)) (start mid last : AgentRecord H P) (s u t : Stream) → Held before start s one mid u → Held (one ++ before) mid u two last t
        → Held before start s (two ++ one) last t
    join before one [] start mid last s u t h ((is, same), none) =
        subst (λ (a : AgentRecord H P). Held before start s one a t) (sym is) (subst (λ v. Held before start s one mid v) (sym same) h)
    join before one (x ∷ two) start mid last s u t h ((m, v, run, number, based, step), ends) =
        let k = join before one two start mid m s u v h (run, λ e. ends (inr e)) in (
          (m, v, k.0, number ∙ ap length (sym (append_assoc two one before)), based, step),
          λ e. elim e [ inl here ↦ ends (inl here) | inr others ↦ k.1 others ],
        )

    one-call : (before : List (Logged P)) (c : Call P) (e : Entry) (old new : AgentRecord H P) (s t : Stream) → GivesBased c → Step mac answers old s c e new t
        → (Ends answers old c e path → Gone) → Held before old s (entry_of before c e ∷ []) new t
    one-call before c e old new s t based step ends = ((old, s, (refl, refl), refl, based, step), λ k. elim k [ inl here ↦ ends here.1 | inr none ↦ absurd none ])

    holds_execution : (xs : List (Call P × Entry)) (before : List (Logged P)) (old new : AgentRecord H P) → (execution : Execution mac answers xs old new)
        → (EndsAlong mac answers xs old new execution path → Gone) → Holds before old (part_of before xs) new
    holds_execution [] before old new is ends t = (t, ((is, refl), λ none. absurd none))
    holds_execution (x ∷ rest) before old new (mid, s, t, based, step, more) ends u =
        let k = holds_execution rest (entry_of before x.0 x.1 ∷ before) mid new more (λ e. ends (inr e)) u in
        let a = recomputed mac answers x.0 x.1 old mid s t k.0 step in (
          a.0,
          join before (entry_of before x.0 x.1 ∷ []) (part_of (entry_of before x.0 x.1 ∷ before) rest) old mid new a.0 k.0 u
              (one-call before x.0 x.1 old mid a.0 k.0 based a.1 (λ e. ends (inl e))) k.1,
        )

    holds_rounds : (rounds : List (ExecutionRound P)) (before : List (Logged P)) (older : List (LoggedRound P)) (start old new : AgentRecord H P) → Holds before start (entries_of older) old
        → (chain : PassRounds mac answers rounds old new) → (EndsAmong mac answers rounds old new chain path → Gone) → Holds before start (entries_of (rounds_of before older rounds)) new
    holds_rounds [] before older start old new held is ends = subst (λ (a : AgentRecord H P). Holds before start (entries_of older) a) (sym is) held
    holds_rounds (r ∷ later) before older start old new held (mid, next, s, t, step, execution, more) ends =
        holds_rounds later before (round_of (entries_of older ++ before) r ∷ older) start next new one more (λ e. ends (inr e)) where
          timeout : Logged P
          timeout = entry_of (entries_of older ++ before) (HandleTimeout r.now) r.timeout

          one : Holds before start (entries_of (round_of (entries_of older ++ before) r ∷ older)) next
          one u =
              let k = holds_execution r.following (timeout ∷ (entries_of older ++ before)) mid next execution (λ e. ends (inl (search e))) u in
              let a = recomputed mac answers (HandleTimeout r.now) r.timeout old mid s t k.0 step in
              let h = held a.0 in (
                h.0,
                join before (timeout ∷ entries_of older) (part_of (timeout ∷ (entries_of older ++ before)) r.following) start mid next h.0 k.0 u
                    ((old, a.0, h.1.0, refl, tt, a.1), λ e. elim e [ inl (called, ends_at) ↦ no-case called | inr others ↦ h.1.1 others ]) k.1,
              )

    -- what is reached in the rounds of the log is reached in those of the execution
    pub reached-back : (before : List (Logged P)) (rounds : List (ExecutionRound P)) (found : Type 0) → (found → Gone)
        → ChecksIn (rounds_of before [] rounds) path ⊎ (IsAnsweredIn (entries_of (rounds_of before [] rounds)) path ⊎ found)
        → ChecksAmong rounds path ⊎ (IsAnsweredAmong rounds path ⊎ Gone)
    reached-back before rounds found gone (inl checks) = elim (checks_among before [] rounds path checks) [
      | inl k ↦ inl k
      | inr none ↦ absurd none.2
    ]
    reached-back before rounds found gone (inr (inl answered)) = elim (answered_among before [] rounds path answered) [
      | inl k ↦ inr (inl k)
      | inr none ↦ absurd none.1
    ]
    reached-back before rounds found gone (inr (inr ended)) = inr (inr (gone ended))

  pub any : Stream
  any = record { u32_after = λ cs. 0; u64_after = λ cs. 0; bytes_after = λ cs n. [] }

  -- ---- unless a call turns it off

  module _ (Off : Call P → Entry → Type 0) (Stays : AgentRecord H P → Type 0) (owes : AgentRecord H P → ℕ) (pays : Entry → ℕ) (turns : InTurn mac answers Stays Off owes pays) where
    open-unless : (first start last : AgentRecord H P) (xs : List (Call P × Entry)) (r : ExecutionRound P) (rounds : List (ExecutionRound P)) (p : PairRecord) (by most : ℕ)
        → IsFresh first → Execution mac answers xs first start → Lined r.now by start p → Stays start → (run : PassRounds mac answers (r ∷ rounds) start last)
        → ((x : ExecutionRound P) → Has (r ∷ rounds) x → IsOpenRound (is_modern start.timing) by x) → ((x : ExecutionRound P) → Has (r ∷ rounds) x → IsLasting x.now start p)
        → checks_for (is_modern start.timing) (2 * length start.pairs + last.next_number + most) ≤ length (r ∷ rounds) + 1 + checks_for (is_modern start.timing) start.next_number
        → owes start + paid_among pays (r ∷ rounds) ≤ most → OffAmong Off (r ∷ rounds) ⊎ IsReached mac answers (r ∷ rounds) start last run (path_of start p)
    open-unless first start last xs r rounds p by most fresh execution line stays chain are lasting enough within =
        let before : List (Logged P) = pushed [] xs in
        let path : Path = path_of start p in
        let Gone : Type 0 = EndsAmong mac answers (r ∷ rounds) start last chain path in
        let all : List (LoggedRound P) = rounds_of before [] (r ∷ rounds) in
        let held = holds_rounds Gone path (r ∷ rounds) before [] start start last (λ t. (t, ((refl, refl), λ none. absurd none))) chain (λ e. e) any in
        let led = leads_on mac answers first xs [] first start (λ t. (t, (refl, refl))) execution held.0 in
        let many = as_many before [] (r ∷ rounds) in
        let counts : paid pays (entries_of all) ≡ 0 + paid_among pays (r ∷ rounds) = paid-rounds pays before [] (r ∷ rounds) in
        elim (reached-unless mac answers Stays Off owes pays turns first led.0 (entries_of all ++ before) fresh before start last all p by most
        (record { rest = []; split = refl; at = held.0; led = led.1; following = any; run = held.1.0 })
        (record {
          at = r.now;
          began = begun before (round_of ([] ++ before) r) [] rounds;
          line = line;
          passing = are_passing (is_modern start.timing) by before [] (r ∷ rounds) (λ x none. absurd none) are;
          lasting = are_at (λ m. IsLasting m start p) before [] (r ∷ rounds) (λ x none. absurd none) lasting;
          enough = omega (arith, many, enough);
        }) (omega (arith, counts, within)) stays) [
          | inl off ↦ elim (off_among Off turns.apart before [] (r ∷ rounds) off) [ inl k ↦ inl k | inr (x, none, is) ↦ absurd none ]
          | inr reached ↦ inr (reached-back Gone path before (r ∷ rounds) (IsEndedIn mac answers before start held.0 (entries_of all) last any held.1.0 path) held.1.1 reached)
        ]

    pub due-executions-unless : (Then : AgentRecord H P → Type 0) (then_owes : AgentRecord H P → ℕ) (then_pays : Entry → ℕ) → InTurn mac answers Then Off then_owes then_pays
        → (first start last : AgentRecord H P) (xs : List (Call P × Entry)) (r : ExecutionRound P) (later : List (ExecutionRound P)) (p : PairRecord) (by all_most most : ℕ)
        → IsFresh first → Execution mac answers xs first start → Lined r.now by start p → Stays start
        → by ≤ r.now → r.timeout.answer ≡ Done → r.now < MAX → AreInRound (is_modern start.timing) r.following
        → (run : PassRounds mac answers (r ∷ later) start last) → (Stays run.1 → Then run.1) → ((x : ExecutionRound P) → Has later x → IsOpenRound (is_modern start.timing) by x)
        → ((x : ExecutionRound P) → Has later x → IsLasting x.now start p) → Suffices by r.now start run.1 last (length later) all_most most
        → owes start + paid_among pays (r ∷ later) ≤ all_most → then_owes run.1 + paid_among then_pays later ≤ most → OffAmong Off (r ∷ later) ⊎ IsReached mac answers (r ∷ later) start last run (path_of start p)
    due-executions-unless Then then_owes then_pays then_turns first start last xs r later p by all_most most fresh execution line stays from done early between run then passing lasting enough within then_within = by-enough enough where
      path : Path
      path = path_of start p

      Gone : Type 0
      Gone = EndsAmong mac answers (r ∷ later) start last run path

      open-from : by < r.now → (x : ExecutionRound P) → Has (r ∷ later) x → IsOpenRound (is_modern start.timing) by x
      open-from late x (inl is) = subst (λ (y : ExecutionRound P). IsOpenRound (is_modern start.timing) by y) is (record { done = done; late = late; early = early; between = between })
      open-from late x (inr has) = passing x has

      lasts : (x : ExecutionRound P) → Has (r ∷ later) x → IsLasting x.now start p
      lasts x (inl is) = subst (λ (y : ExecutionRound P). IsLasting y.now start p) is line.lasting
      lasts x (inr has) = lasting x has

      before : List (Logged P)
      before = pushed [] xs

      first_round : LoggedRound P
      first_round = round_of before r

      following : List (Logged P)
      following = entries_of (first_round ∷ []) ++ before

      others : List (LoggedRound P)
      others = rounds_of following [] later

      held-later : (s : Stream) × Held Gone path following run.1 s (entries_of others) last any
      held-later = holds_rounds Gone path later following [] run.1 run.1 last (λ t. (t, ((refl, refl), λ none. absurd none))) run.6 (λ e. inr e) any

      held-first : (s : Stream) × Held Gone path before start s (entries_of (first_round ∷ [])) run.1 held-later.0
      held-first = holds_rounds Gone path (r ∷ []) before [] start start run.1 (λ t. (t, ((refl, refl), λ none. absurd none)))
          (run.0, run.1, run.2, run.3, run.4, run.5, refl) (λ e. elim e [ inl k ↦ inl k | inr none ↦ absurd none ]) held-later.0

      led : (s : Stream) × Run mac answers first s before start held-first.0
      led = leads_on mac answers first xs [] first start (λ t. (t, (refl, refl))) execution held-first.0

      found_first : Part mac answers first led.0 (entries_of others ++ following) before start (entries_of (first_round ∷ [])) run.1
      found_first = record { rest = entries_of others; split = refl; at = held-first.0; led = led.1; following = held-later.0; run = held-first.1.0 }

      found_later : Part mac answers first led.0 (entries_of others ++ following) (entries_of (first_round ∷ []) ++ before) run.1 (entries_of others) last
      found_later = record {
        rest = [];
        split = refl;
        at = held-later.0;
        led = run-on mac answers first start run.1 led.0 held-first.0 held-later.0 before (entries_of (first_round ∷ [])) led.1 held-first.1.0;
        following = any;
        run = held-later.1.0;
      }

      from-first : SufficesFromDue start run.1 last (length later) most → OffAmong Off (r ∷ later) ⊎ IsReached mac answers (r ∷ later) start last run path
      from-first enough =
          let many = as_many following [] later in
          let counts : paid then_pays (entries_of others) ≡ 0 + paid_among then_pays later = paid-rounds then_pays following [] later in
          elim (due-unless mac answers Off Stays owes pays turns Then then_owes then_pays then_turns first led.0 (entries_of others ++ following) fresh before start run.1 last first_round others p by most
          found_first found_later
          line stays then (omega (arith, from)) refl done
          (λ x has. between (x.call, x.entry) (part_is (entry_of before (HandleTimeout r.now) r.timeout ∷ before) r.following x has))
          (are_passing (is_modern start.timing) by following [] later (λ x none. absurd none) passing)
          (are_at (λ m. IsLasting m start p) following [] later (λ x none. absurd none) lasting)
          (subst (λ n. SufficesFromDue start run.1 last n most) (sym (omega (arith, many))) enough) (omega (arith, counts, then_within))) [
            | inl (inl off) ↦ elim (off_among Off turns.apart before [] (r ∷ []) off) [
              | inl (x, inl is, k) ↦ inl (x, inl is, k)
              | inl (x, inr none, k) ↦ absurd none
              | inr (x, none, is) ↦ absurd none
            ]
            | inl (inr off) ↦ elim (off_among Off turns.apart following [] later off) [
              | inl (x, has, k) ↦ inl (x, inr has, k)
              | inr (x, none, is) ↦ absurd none
            ]
            | inr reached ↦ inr (in-first reached)
          ] where
            in-first : IsReachedIn mac answers (first_round ∷ []) found_first path ⊎ IsReachedIn mac answers others found_later path → IsReached mac answers (r ∷ later) start last run path
            in-first (inl here) =
                elim (reached-back Gone path before (r ∷ []) (IsEndedIn mac answers before start held-first.0 (entries_of (first_round ∷ [])) run.1 held-later.0 held-first.1.0 path) held-first.1.1 here) [
                  | inl (x, id, inl is, out) ↦ inl (x, id, inl is, out)
                  | inl (x, id, inr none, out) ↦ absurd none
                  | inr (inl (x, inl is, answered)) ↦ inr (inl (x, inl is, answered))
                  | inr (inl (x, inr none, answered)) ↦ absurd none
                  | inr (inr ends) ↦ inr (inr ends)
                ]
            in-first (inr there) =
                elim (reached-back Gone path following later (IsEndedIn mac answers following run.1 held-later.0 (entries_of others) last any held-later.1.0 path) held-later.1.1 there) [
                  | inl (x, id, has, out) ↦ inl (x, id, inr has, out)
                  | inr (inl (x, has, answered)) ↦ inr (inl (x, inr has, answered))
                  | inr (inr ends) ↦ inr (inr ends)
                ]

      by-enough : Suffices by r.now start run.1 last (length later) all_most most → OffAmong Off (r ∷ later) ⊎ IsReached mac answers (r ∷ later) start last run path
      by-enough (inl (late, enough)) =
          open-unless first start last xs r later p by all_most fresh execution line stays run (λ x has. open-from (omega (arith, late)) x has) lasts (omega (arith, enough)) (omega (arith, within))
      by-enough (inr enough) = from-first enough

  -- ---- nominations may have numbers

  pub open-executions-reach : OpenExecutionsReach {H = H} {P = P} mac answers
  open-executions-reach first start last xs r rounds p by fresh execution line chain are lasting enough =
      elim (open-unless (Never mac answers) (IsNumbered mac answers (numbers start)) (to_send (numbers start)) (to_select (numbers start)) (numbered-in-turn mac answers (numbers start))
      first start last xs r rounds p by (nominations_ahead start (selections_among (r ∷ rounds))) fresh execution (lined r.now by start p line) (λ off. off) chain
      (λ x has. are x has) (λ x has. lasting x has) (omega (arith, enough)) (among-within start (r ∷ rounds))) [
        | inl (x, has, (y, there, never)) ↦ absurd never
        | inr reached ↦ reached
      ]

  pub executions-reach-from-due : ExecutionsReachFromDue {H = H} {P = P} mac answers
  executions-reach-from-due first start last xs r later p by fresh execution line from done early between run passing lasting enough =
      elim (due-executions-unless (Never mac answers) (IsNumbered mac answers (numbers start)) (to_send (numbers start)) (to_select (numbers start)) (numbered-in-turn mac answers (numbers start))
      (IsNumbered mac answers (numbers run.1)) (to_send (numbers run.1)) (to_select (numbers run.1)) (numbered-in-turn mac answers (numbers run.1))
      first start last xs r later p by (nominations_ahead start (selections_among (r ∷ later))) (nominations_ahead run.1 (selections_among later)) fresh execution (lined r.now by start p line) (λ off. off)
      (omega (arith, from)) done (omega (arith, early)) (λ x has. between x has) run (λ _ off. off) (λ x has. passing x has) (λ x has. lasting x has) (of_enough enough)
      (among-within start (r ∷ later)) (among-within run.1 later)) [
        | inl (x, has, (y, there, never)) ↦ absurd never
        | inr reached ↦ reached
      ] where
        of_enough : RoundsSuffice by start run.1 last r later (length later)
            → Suffices by r.now start run.1 last (length later) (nominations_ahead start (selections_among (r ∷ later))) (nominations_ahead run.1 (selections_among later))
        of_enough (inl (late, many)) = inl (omega (arith, late), omega (arith, many))
        of_enough (inr (inl few)) = inr (inl (omega (arith, few)))
        of_enough (inr (inr many)) = inr (inr (omega (arith, many)))

  -- ---- no pair is valid

  -- A pair of a controlling agent that has no valid one is reached, unless a success response is accepted in the rounds.
  pub executions-reach-unanswered : ExecutionsReachUnanswered {H = H} {P = P} mac answers
  executions-reach-unanswered first start last xs r later p by fresh execution role waits unanswered from done early between run passing enough =
      due-executions-unless (Accepts mac answers) (IsQuiet mac answers) (no_agent mac answers) (no_call mac answers) (quiet-in-turn mac answers)
      (IsQuiet mac answers) (no_agent mac answers) (no_call mac answers) (quiet-in-turn mac answers) first start last xs r later p by 0 0 fresh execution (lined-unanswered r.now by start p waits unanswered)
      (record {
        full = waits.checking.full;
        invalid = λ q has. (let none = unanswered.invalid in none q has);
        quiet = due-none start (sound-execution mac answers xs first start (subst (λ (a : AgentRecord H P). IsSound a) (sym fresh.2) (fresh_sound H P first.provider fresh.0 fresh.1)) execution) role waits.checking.full unanswered.calm;
      })
      (omega (arith, from)) done (omega (arith, early)) (λ x has. between x has) run (λ still. still) (λ x has. passing x has)
      (λ x has valid. (let no : true ≡ false = sym valid ∙ (let none = unanswered.invalid in none p waits.there) in absurd (cc))) enough
      (let k : paid_among (λ e. 0) (r ∷ later) ≡ 0 = among-nothing (r ∷ later) in omega (arith, k)) (let k : paid_among (λ e. 0) later ≡ 0 = among-nothing later in omega (arith, k))

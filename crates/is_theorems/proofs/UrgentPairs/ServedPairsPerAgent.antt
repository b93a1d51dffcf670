-- A controlling agent without a valid pair, and one of its pairs on which a request was served: in rounds of an execution its path is reached as
-- in those of a log. What mutants/specifications changes is read by tactics.
use Rattle.is_stun.specs.declared.header.Class.TheVariants as class
use Rattle.is_theorems.proofs.Common.{[], ◌*◌, ◌++◌, ◌+◌, ◌<◌, ◌∙◌, ◌∷◌, ◌≡◌, ◌≤◌, ◌⊎◌, AcceptsSuccess, AgentRecord, ap, append_assoc}
use Rattle.is_theorems.proofs.Common.{AreInRound, arith, Bool, Call, CandidateRecord, ChecksAmong, Ends, EndsAlong, EndsAmong, entries_of}
use Rattle.is_theorems.proofs.Common.{Entry, Execution, ExecutionRound, ExecutionsReachServed, false, HandleTimeout, Has, inl, inr}
use Rattle.is_theorems.proofs.Common.{is_in_round, is_modern, is_some, is_valid, IsAnsweredAlong, IsAnsweredAmong, IsEndedIn, IsFresh}
use Rattle.is_theorems.proofs.Common.{IsInLine, IsLasting, IsOpenRound, IsOvertaken, IsOvertakenAmong, IsOvertakenIn, IsReached, IsServed}
use Rattle.is_theorems.proofs.Common.{IsSound, issued_as, IsValidOn, last_of, length, List, Logged, LoggedRound, MayEnd, nat_lt, nat_tests}
use Rattle.is_theorems.proofs.Common.{None, not, Option, option_or, PairRecord, PassRounds, Path, path_of, refl, rising-each, RunsOn}
use Rattle.is_theorems.proofs.Common.{selects, ServedAreCheckedSoon, ServedExecutionsReach, Some, Stays, Step, Stream, subst, suc}
use Rattle.is_theorems.proofs.Common.{SufficesForServed, sym, timeout_begun, true, unanswered_count, ℕ}
use Rattle.is_theorems.proofs.CallEffects.FailedCallsAndNewAgents.{fresh_sound}
use Rattle.is_theorems.proofs.CallEffects.PathAndTradeEffects.{path_theorem}
use Rattle.is_theorems.proofs.DuePairs.AfterNominationAndRemoval.{Base, answered-if, answered_at, base_of as agent_base, lasts-young}
use Rattle.is_theorems.proofs.DuePairs.FirstDuePair.{Follows, due-at, timeout-follows}
use Rattle.is_theorems.proofs.DuePairs.NoNominationDue.{Quiet, as-is, due-none, modern-execution, modern-stays, modern-stays-timeout}
use Rattle.is_theorems.proofs.DuePairs.NoNominationDue.{quiet-call, quiet-timeout}
use Rattle.is_theorems.proofs.DuePairs.PollingCycles.{maintains_pairs-from}
use Rattle.is_theorems.proofs.EarlierChecks.BetweenTimeouts.{Ground}
use Rattle.is_theorems.proofs.ExecutionLogs.LogSegments.{no-case, passed as passed-at}
use Rattle.is_theorems.proofs.ExecutionLogs.PerAgentExecutions.{as_many, begun, entry_of, leads_on, part_of, pushed, recomputed, round_of}
use Rattle.is_theorems.proofs.ExecutionLogs.PerAgentExecutions.{rounds_of}
use Rattle.is_theorems.proofs.PathSelection.NominatedByPeerPerAgent.{execution_on}
use Rattle.is_theorems.proofs.PollingRounds.AddedCandidatesPerAgent.{any, are_at, are_passing, reached-back}
use Rattle.is_theorems.proofs.PollingRounds.FirstRound.{Waits, between-keeps, lt-from, timeout-on, waits-on}
use Rattle.is_theorems.proofs.PollingRounds.InTurnAlong.{Lined, lined-unanswered}
use Rattle.is_theorems.proofs.RuleEffects.SelectedPaths.{one_pair}
use Rattle.is_theorems.proofs.StoredPairs.PairsThatStay.{pairs-stay, stays-on}
use Rattle.is_theorems.proofs.StoredPairs.TransactionsOverPackets.{sound-execution}

lt-is : (n m : ℕ) → n < m → nat_lt n m ≡ true
lt-is n m h = grind (arith, nat_tests, h)

-- ---- numbers of calls

-- so many of both together
abbrev Both : (ℕ → Type 0) → (ℕ → Type 0) → ℕ → Type 0
Both One Two k = (i j : ℕ) × (k ≡ i + j) × One i × Two j

abbrev IsNone : ℕ → Type 0
IsNone k = k ≡ 0

with-none : (k : ℕ) → k ≡ k + 0
with-none k = omega arith

none-of-both : (k i j : ℕ) → k ≡ i + j → i ≡ 0 → j ≡ 0 → k ≡ 0
none-of-both k i j all none others = omega (arith, all, none, others)

none-then : (k a b j i : ℕ) → k ≡ i + j → i ≡ a + b → b ≡ 0 → k ≡ a + j
none-then k a b j i all both none = omega (arith, all, both, none)

one-then : (k a b c j i : ℕ) → k ≡ i + j → i ≡ a + b → b ≡ suc c → c ≡ 0 → k ≡ a + suc j
one-then k a b c j i all both some none = omega (arith, all, both, some, none)

one-more : (k j : ℕ) → k ≡ suc j → k ≡ j + 1
one-more k j is = omega (arith, is)

-- what was selected last was selected
last-has : (xs : List (Option Path)) (path : Path) → last_of xs ≡ Some path → Has xs (Some path)
last-has [] path is = absurd (let no : None ≡ Some path = is in cc)
last-has (x ∷ xs) path is = by (last_of xs) x is (λ later. last-has xs path later) where
  by : (o : Option Path) (x : Option Path) → option_or o x ≡ Some path → (o ≡ Some path → Has xs (Some path)) → Has (x ∷ xs) (Some path)
  by (Some q) x is later = inr (later is)
  by None x is later = inl is

none-selected : (xs : List (Option Path)) → ((path : Path) → Has xs (Some path) → ⊥) → is_some (last_of xs) ≡ false
none-selected xs none = by (last_of xs) refl where
  by : (o : Option Path) → last_of xs ≡ o → is_some o ≡ false
  by None is = refl
  by (Some path) is = absurd (none path (last-has xs path is))

module _ {H P : Type 0} (mac : H → List ℕ → List ℕ → List ℕ) (answers : P → CandidateRecord → ℕ → ℕ → Type 0) where
  -- ---- rounds of an execution, as those of a log: what may remove a pair of the path, and how many calls overtake the pair with the number

  module _ (n : ℕ) (path : Path) (Gone : Type 0) where
    abbrev Held : (ℕ → Type 0) → List (Logged P) → AgentRecord H P → Stream → List (Logged P) → AgentRecord H P → Stream → Type 0
    Held Over before start s part last t =
        (run : RunsOn mac answers before start s part last t) × (IsEndedIn mac answers before start s part last t run path → Gone)
        × ((k : ℕ) → IsOvertakenIn mac answers n k before start s part last t run → Over k)

    abbrev Holds : (ℕ → Type 0) → List (Logged P) → AgentRecord H P → List (Logged P) → AgentRecord H P → Type 0
    Holds Over before start part last = (t : Stream) → (s : Stream) × Held Over before start s part last t

    -- of two parts, the newer one after the older one
    join : (One : ℕ → Type 0) (before one two : List (Logged P)) (start mid last : AgentRecord H P) (s u t : Stream) → Held One before start s one mid u
        → (run : RunsOn mac answers (one ++ before) mid u two last t) → (IsEndedIn mac answers (one ++ before) mid u two last t run path → Gone)
        → Held (Both One (λ j. IsOvertakenIn mac answers n j (one ++ before) mid u two last t run)) before start s (two ++ one) last t
    join One before one [] start mid last s u t h (is, same) ends =
        subst (λ (a : AgentRecord H P). Held (Both One IsNone) before start s one a t) (sym is)
        (subst (λ v. Held (Both One IsNone) before start s one mid v) (sym same) (h.0, h.1, λ k o. (k, 0, with-none k, h.2 k o, refl)))
    join One before one (x ∷ two) start mid last s u t h (m, v, run, number, based, step) ends =
        let k = join One before one two start mid m s u v h run (λ e. ends (inr e)) in (
          (m, v, k.0, number ∙ ap length (sym (append_assoc two one before)), based, step),
          (λ e. elim e [ inl here ↦ ends (inl here) | inr others ↦ k.1 others ]),
          λ c o. over (k.2) c o,
        ) where
          Newer : ℕ → Type 0
          Newer j = IsOvertakenIn mac answers n j (one ++ before) mid u (x ∷ two) last t (m, v, run, number, based, step)

          Older : ℕ → Type 0
          Older j = IsOvertakenIn mac answers n j (one ++ before) mid u two m v run

          over : {Under : ℕ → Type 0} → ((c : ℕ) → Under c → Both One Older c) → (c : ℕ)
              → (Under c ⊎ ((now k : ℕ) × (c ≡ suc k) × (x.call ≡ HandleTimeout now) × IsOvertaken n now m x.entry.emitted × Under k)) → Both One Newer c
          over under c (inl o) = let (i, j, all, one_of, two_of) = under c o in (i, j, all, one_of, inl two_of)
          over under c (inr (now, k, is, called, here, o)) =
              let (i, j, all, one_of, two_of) = under k o in (i, suc j, more i j k (omega (arith, is)) all, one_of, inr (now, j, refl, called, here, two_of)) where
                more : (i j k : ℕ) → c ≡ suc k → k ≡ i + j → c ≡ i + suc j
                more i j k is all = omega (arith, is, all)

    abbrev weaker : (One Two : ℕ → Type 0) (before : List (Logged P)) (start last : AgentRecord H P) (s t : Stream) (part : List (Logged P)) → ((k : ℕ) → One k → Two k)
        → Held One before start s part last t → Held Two before start s part last t
    weaker One Two before start last s t part into h = (h.0, h.1, λ k o. into k (h.2 k o))

    -- packets, polls and other calls between two `handle_timeout` calls
    holds_execution : (modern : Bool) (xs : List (Call P × Entry)) (before : List (Logged P)) (old new : AgentRecord H P) → AreInRound modern xs → (execution : Execution mac answers xs old new)
        → (EndsAlong mac answers xs old new execution path → Gone) → Holds IsNone before old (part_of before xs) new
    holds_execution modern [] before old new fits is ends t = (t, ((is, refl), (λ none. absurd none), λ k o. o))
    holds_execution modern (x ∷ rest) before old new fits (mid, s, t, based, step, more) ends u =
        let k = holds_execution modern rest (entry_of before x.0 x.1 ∷ before) mid new (λ y has. fits y (inr has)) more (λ e. ends (inr e)) u in
        let a = recomputed mac answers x.0 x.1 old mid s t k.0 step in
        let here : Held IsNone before old a.0 (entry_of before x.0 x.1 ∷ []) mid k.0 = (
          (old, a.0, (refl, refl), refl, based, a.1),
          (λ e. elim e [ inl is ↦ ends (inl is.1) | inr none ↦ absurd none ]),
          λ c o. elim o [ inl is ↦ is | inr (now, j, is, called, overtaken, o) ↦ no-case (sym (ap (λ z. is_in_round modern z) called) ∙ fits x (inl refl)) ],
        ) in (
          a.0,
          weaker _ IsNone before old new a.0 u (part_of (entry_of before x.0 x.1 ∷ before) rest ++ entry_of before x.0 x.1 ∷ [])
              (λ c both. none-of-both c both.0 both.1 both.2 both.3 (k.1.2 both.1 both.4))
              (join IsNone before (entry_of before x.0 x.1 ∷ []) (part_of (entry_of before x.0 x.1 ∷ before) rest) old mid new a.0 k.0 u here k.1.0 k.1.1),
        )

    -- the `handle_timeout` call of a round overtakes the pair, or it does not
    abbrev InCall : ExecutionRound P → AgentRecord H P → ℕ → Type 0
    InCall r old i = (i ≡ 0) ⊎ ((j : ℕ) × (i ≡ suc j) × IsOvertaken n r.now old r.timeout.emitted × (j ≡ 0))

    holds_rounds : (modern : Bool) (Acc : ℕ → Type 0) (rounds : List (ExecutionRound P)) (before : List (Logged P)) (older : List (LoggedRound P)) (start old new : AgentRecord H P)
        → Holds Acc before start (entries_of older) old → (chain : PassRounds mac answers rounds old new) → ((x : ExecutionRound P) → Has rounds x → AreInRound modern x.following)
        → (EndsAmong mac answers rounds old new chain path → Gone)
        → Holds (Both Acc (λ j. IsOvertakenAmong mac answers n j rounds old new chain)) before start (entries_of (rounds_of before older rounds)) new
    holds_rounds modern Acc [] before older start old new held is fits ends t =
        let h = held t in (
          h.0,
          subst (λ (a : AgentRecord H P). Held (Both Acc IsNone) before start h.0 (entries_of older) a t) (sym is)
              (h.1.0, h.1.1, λ k o. (k, 0, with-none k, h.1.2 k o, refl)),
        )
    holds_rounds modern Acc (r ∷ later) before older start old new held (mid, next, s, t, step, execution, more) fits ends u =
        let k = holds_rounds modern (Both Acc (InCall r old)) later before (round_of (entries_of older ++ before) r ∷ older) start next new one more (λ x has. fits x (inr has)) (λ e. ends (inr e)) u in
        (k.0, weaker _ _ before start new k.0 u (entries_of (rounds_of before (round_of (entries_of older ++ before) r ∷ older) later)) (λ c o. in-all c o) k.1) where
          timeout : Logged P
          timeout = entry_of (entries_of older ++ before) (HandleTimeout r.now) r.timeout

          same-now : (now : ℕ) → timeout.call ≡ HandleTimeout now → r.now ≡ now
          same-now now is = cc

          one : Holds (Both Acc (InCall r old)) before start (entries_of (round_of (entries_of older ++ before) r ∷ older)) next
          one v =
              let k = holds_execution modern r.following (timeout ∷ (entries_of older ++ before)) mid next (fits r (inl refl)) execution (λ e. ends (inl (search e))) v in
              let a = recomputed mac answers (HandleTimeout r.now) r.timeout old mid s t k.0 step in
              let h = held a.0 in
              let called : Held (Both Acc (InCall r old)) before start h.0 (timeout ∷ entries_of older) mid k.0 = (
                (old, a.0, h.1.0, refl, tt, a.1),
                (λ e. elim e [ inl (is, ends_at) ↦ no-case is | inr others ↦ h.1.1 others ]),
                λ c o. elim o [
                  | inl before_it ↦ (c, 0, with-none c, h.1.2 c before_it, inl refl)
                  | inr (now, j, is, comes, overtaken, before_it) ↦ (
                    j,
                    1,
                    one-more c j is,
                    h.1.2 j before_it,
                    inr (0, refl, subst (λ i. IsOvertaken n i old r.timeout.emitted) (sym (same-now now comes)) overtaken, refl),
                  )
                ],
              ) in (
                h.0,
                weaker _ _ before start next h.0 v (part_of (timeout ∷ (entries_of older ++ before)) r.following ++ timeout ∷ entries_of older)
                    (λ c both. in-call c both.0 both.1 both.2 (k.1.2 both.1 both.4) both.3)
                    (join (Both Acc (InCall r old)) before (timeout ∷ entries_of older) (part_of (timeout ∷ (entries_of older ++ before)) r.following) start mid next h.0 k.0 v called k.1.0 k.1.1),
              ) where
                only : (c i j : ℕ) → c ≡ i + j → j ≡ 0 → c ≡ i
                only c i j all none = omega (arith, all, none)

                in-call : (c i j : ℕ) → c ≡ i + j → j ≡ 0 → Both Acc (InCall r old) i → Both Acc (InCall r old) c
                in-call c i j all none both = subst (λ d. Both Acc (InCall r old) d) (sym (only c i j all none)) both

          in-all : (c : ℕ) → Both (Both Acc (InCall r old)) (λ j. IsOvertakenAmong mac answers n j later next new more) c
              → Both Acc (λ j. IsOvertakenAmong mac answers n j (r ∷ later) old new (mid, next, s, t, step, execution, more)) c
          in-all c (i, j, all, (a, b, both, acc, inl none), among) = (a, j, none-then c a b j i all both none, acc, inl among)
          in-all c (i, j, all, (a, b, both, acc, inr (d, some, overtaken, none)), among) = (a, suc j, one-then c a b d j i all both some none, acc, inr (j, omega arith, search overtaken, among))

  -- no `handle_timeout` call of the rounds selects a path
  are_silent : (before : List (Logged P)) (older : List (LoggedRound P)) (rounds : List (ExecutionRound P)) → ((r : LoggedRound P) → Has older r → selects r.timeout.entry ≡ false)
      → ((r : ExecutionRound P) → Has rounds r → selects r.timeout ≡ false) → (r : LoggedRound P) → Has (rounds_of before older rounds) r → selects r.timeout.entry ≡ false
  are_silent before older [] were are r has = were r has
  are_silent before older (x ∷ later) were are r has =
      are_silent before (round_of (entries_of older ++ before) x ∷ older) later
      (λ y there. elim there [
        | inl is ↦ subst (λ (z : LoggedRound P). selects z.timeout.entry ≡ false) is (are x (inl refl))
        | inr k ↦ were y k
      ])
      (λ y there. are y (inr there)) r has

  served-executions : ServedAreCheckedSoon {H = H} {P = P} mac answers
      → (first start last : AgentRecord H P) (xs : List (Call P × Entry)) (r : ExecutionRound P) (rounds : List (ExecutionRound P)) (p : PairRecord) (by m : ℕ)
      → IsFresh first → Execution mac answers xs first start → IsInLine r.now by start p → IsServed start p → (chain : PassRounds mac answers (r ∷ rounds) start last)
      → ((x : ExecutionRound P) → Has (r ∷ rounds) x → IsOpenRound (is_modern start.timing) by x) → ((x : ExecutionRound P) → Has (r ∷ rounds) x → IsLasting x.now start p)
      → ((x : ExecutionRound P) → Has (r ∷ rounds) x → selects x.timeout ≡ false) → 2 * m ≤ length (r ∷ rounds)
      → ChecksAmong (r ∷ rounds) (path_of start p)
      ⊎ (IsAnsweredAmong (r ∷ rounds) (path_of start p)
      ⊎ (EndsAmong mac answers (r ∷ rounds) start last chain (path_of start p) ⊎ IsOvertakenAmong mac answers p.number m (r ∷ rounds) start last chain))
  served-executions checked first start last xs r rounds p by m fresh execution line served chain are lasting silent enough =
      let held = holds_rounds p.number path Gone (is_modern start.timing) IsNone (r ∷ rounds) before [] start start last (λ t. (t, ((refl, refl), (λ none. absurd none), λ k o. o))) chain
      (λ x has. (let round = are x has in λ y there. (let in_round = round.between in in_round y there))) (λ e. e) (any mac answers) in
      let led = leads_on mac answers first xs [] first start (λ t. (t, (refl, refl))) execution held.0 in
      let many = as_many before [] (r ∷ rounds) in
      elim (checked first led.0 (entries_of all ++ before) fresh before start last all p by m
      (record { rest = []; split = refl; at = held.0; led = led.1; following = any mac answers; run = held.1.0 })
      (record {
        waits = record {
          at = r.now;
          began = begun before (round_of ([] ++ before) r) [] rounds;
          line = line;
          passing = are_passing (is_modern start.timing) by before [] (r ∷ rounds) (λ x none. absurd none) are;
          lasting = are_at (λ k. IsLasting k start p) before [] (r ∷ rounds) (λ x none. absurd none) lasting;
        };
        served = served;
        quiet = are_silent before [] (r ∷ rounds) (λ x none. absurd none) silent;
        enough = omega (arith, many, enough);
      })) [
        | inl checks ↦ on (reached-back mac answers Gone path before (r ∷ rounds) Gone (λ e. e) (inl checks))
        | inr (inl answered) ↦ on (reached-back mac answers Gone path before (r ∷ rounds) Gone (λ e. e) (inr (inl answered)))
        | inr (inr (inl ended)) ↦ inr (inr (inl (held.1.1 ended)))
        | inr (inr (inr overtaken)) ↦ (let (i, j, all_of, none, among) = held.1.2 m overtaken in
            inr (inr (inr (subst (λ k. IsOvertakenAmong mac answers p.number k (r ∷ rounds) start last chain) (sym (all-there m i j all_of none)) among))))
      ] where
        before : List (Logged P)
        before = pushed [] xs

        path : Path
        path = path_of start p

        Gone : Type 0
        Gone = EndsAmong mac answers (r ∷ rounds) start last chain path

        all : List (LoggedRound P)
        all = rounds_of before [] (r ∷ rounds)

        all-there : (m i j : ℕ) → m ≡ i + j → i ≡ 0 → m ≡ j
        all-there m i j whole none = omega (arith, whole, none)

        on : ChecksAmong (r ∷ rounds) path ⊎ (IsAnsweredAmong (r ∷ rounds) path ⊎ Gone)
            → ChecksAmong (r ∷ rounds) path ⊎ (IsAnsweredAmong (r ∷ rounds) path ⊎ (Gone ⊎ IsOvertakenAmong mac answers p.number m (r ∷ rounds) start last chain))
        on (inl checks) = inl checks
        on (inr (inl answered)) = inr (inl answered)
        on (inr (inr gone)) = inr (inr (inl gone))

  pub served-executions-reach : ServedAreCheckedSoon {H = H} {P = P} mac answers → ServedExecutionsReach {H = H} {P = P} mac answers
  served-executions-reach checked first start last xs r later p by m fresh execution line served run opens lasting quiet enough =
      elim (served-executions checked first start last xs r later p by m fresh execution line served run (λ x has. opens x has) (λ x has. lasting x has) (λ x has. quiet x has) enough) [
        | inl checks ↦ inl (inl checks)
        | inr (inl answered) ↦ inl (inr (inl answered))
        | inr (inr (inl ends)) ↦ inl (inr (inr ends))
        | inr (inr (inr overtaken)) ↦ inr (search overtaken)
      ]

  -- ---- no pair is valid, so no `handle_timeout` call selects a path

  abbrev Accepted : List (ExecutionRound P) → Type 0
  Accepted rounds = (x : ExecutionRound P) × Has rounds x × ((y : Call P × Entry) × Has x.following y × AcceptsSuccess y.0 y.1)

  selects-none : (now : ℕ) (e : Entry) (old new : AgentRecord H P) (s t : Stream) → IsSound old → Quiet old → Step mac answers old s (HandleTimeout now) e new t → selects e ≡ false
  selects-none now e old new s t sound q step =
      let f = (path_theorem mac answers old new s t (HandleTimeout now) e sound tt step).0 in
      none-selected e.emitted.selected_paths (λ path has. elim (f.selected_paths q.full path has) [
        | inl (p, there, valid, on) ↦ (let no : false ≡ true = sym (q.invalid p there) ∙ valid in cc)
        | inr a ↦ a.5
      ])

  quiet-calls : (modern : Bool) (xs : List (Call P × Entry)) (old new : AgentRecord H P) → is_modern old.timing ≡ modern → AreInRound modern xs → IsSound old → Execution mac answers xs old new → Quiet old
      → ((y : Call P × Entry) × Has xs y × AcceptsSuccess y.0 y.1) ⊎ Quiet new
  quiet-calls modern [] old new rules fits sound is q = inr (subst (λ (a : AgentRecord H P). Quiet a) (sym is) q)
  quiet-calls modern (x ∷ rest) old new rules fits sound (mid, s, t, given, step, more) q =
      elim (quiet-call mac answers x.0 x.1 old mid s t (as-is modern (is_modern old.timing) x.0 rules (fits x (inl refl))) sound given q step) [
        | inl success ↦ inl (x, inl refl, success)
        | inr still ↦ elim (quiet-calls modern rest mid new (modern-stays mac answers modern x.0 x.1 old mid s t (fits x (inl refl)) step ∙ rules) (λ y has. fits y (inr has)) (path_theorem mac answers old mid s t x.0 x.1 sound given step).1 more still) [
          | inl (y, has, success) ↦ inl (y, inr has, success)
          | inr after ↦ inr after
        ]
      ]

  silent-rounds : (modern : Bool) (rounds : List (ExecutionRound P)) (old new : AgentRecord H P) → is_modern old.timing ≡ modern → IsSound old → Quiet old → ((x : ExecutionRound P) → Has rounds x → AreInRound modern x.following) → PassRounds mac answers rounds old new
      → Accepted rounds ⊎ ((x : ExecutionRound P) → Has rounds x → selects x.timeout ≡ false)
  silent-rounds modern [] old new rules sound q fits run = inr (λ x has. absurd has)
  silent-rounds modern (r ∷ later) old new rules sound q fits (mid, next, s, t, step, execution, more) =
      let sound_mid : IsSound mid = (path_theorem mac answers old mid s t (HandleTimeout r.now) r.timeout sound tt step).1 in
      let rules_mid : is_modern mid.timing ≡ modern = modern-stays-timeout mac answers r.now r.timeout old mid s t step ∙ rules in
      elim (quiet-calls modern r.following mid next rules_mid (fits r (inl refl)) sound_mid execution (quiet-timeout mac answers r.now r.timeout old mid s t sound q step)) [
        | inl accepts ↦ inl (r, inl refl, accepts)
        | inr still ↦ elim (silent-rounds modern later next new (modern-execution mac answers modern r.following mid next (fits r (inl refl)) execution ∙ rules_mid) (sound-execution mac answers r.following mid next sound_mid execution) still (λ x has. fits x (inr has)) more) [
          | inl (x, has, accepts) ↦ inl (x, inr has, accepts)
          | inr silent ↦ inr (λ x has. elim has [
            | inl is ↦ ap (λ (z : ExecutionRound P). selects z.timeout) (sym is) ∙ selects-none r.now r.timeout old mid s t sound q step
            | inr there ↦ silent x there
          ])
        ]
      ]

  -- ---- the first round

  module _ (start : AgentRecord H P) (p : PairRecord) (by at : ℕ) where
    -- the pair waits, and none is valid
    record Kept (a : AgentRecord H P) : Type 0 where
      waits : Waits by p.number (path_of start p) (answered_at start p) at a
      stays : Stays start p a
      quiet : Quiet a
      rules : is_modern a.timing ≡ is_modern start.timing

    kept-on : by ≤ at → (xs : List (Call P × Entry)) (old new : AgentRecord H P) → AreInRound (is_modern start.timing) xs → IsSound old → (execution : Execution mac answers xs old new) → Kept old
        → ((y : Call P × Entry) × Has xs y × AcceptsSuccess y.0 y.1) ⊎ (EndsAlong mac answers xs old new execution (path_of start p) ⊎ Kept new)
    kept-on from [] old new fits sound is k = inr (inr (subst (λ (a : AgentRecord H P). Kept a) (sym is) k))
    kept-on from (x ∷ rest) old new fits sound (mid, s, t, given, step, more) k =
        let sound_mid : IsSound mid = (path_theorem mac answers old mid s t x.0 x.1 sound given step).1 in
        let w = k.waits in
        let ends-here : MayEnd answers old x.0 x.1 w.pair → Ends answers old x.0 x.1 (path_of start p) =
        λ ends. (w.pair, w.there, (ap (λ (y : Path). y.source) w.on, ap (λ (y : Path). y.destination) w.on), ends) in
        elim (quiet-call mac answers x.0 x.1 old mid s t (as-is (is_modern start.timing) (is_modern old.timing) x.0 k.rules (fits x (inl refl))) sound given k.quiet step) [
          | inl success ↦ inl (x, inl refl, success)
          | inr still ↦ elim (between-keeps mac answers by p.number (path_of start p) (answered_at start p) at x.0 x.1 old mid s t w.checking.peer w.last w.pair sound w.there w.number w.on (is_modern start.timing) (fits x (inl refl)) step) [
            | inl (when, via, m, brings, success, back) ↦ inl (x, inl refl, (when, via, m, brings, success))
            | inr (inl ends) ↦ inr (inl (inl (ends-here ends)))
            | inr (inr keeps) ↦ elim (pairs-stay mac answers old mid s t x.0 x.1 w.pair sound given step w.there) [
              | inr ends ↦ inr (inl (inl (ends-here ends)))
              | inl l ↦
                  (let one : w.pair ≡ k.stays.pair = one_pair old.pairs w.pair k.stays.pair (rising-each old.pairs sound.rising) w.there k.stays.there (w.number ∙ sym k.stays.number) in
                  elim (kept-on from rest mid new (λ y has. fits y (inr has)) sound_mid more (record {
                    waits = waits-on mac answers by p.number (path_of start p) (answered_at start p) at from old mid w sound_mid keeps l;
                    stays = stays-on mac answers start old mid p k.stays (subst (λ (q : PairRecord). Stays old q mid) one l);
                    quiet = still;
                    rules = ap (λ (g : Ground). is_modern g.timing) keeps.0 ∙ k.rules;
                  })) [
                    | inl (y, has, success) ↦ inl (y, inr has, success)
                    | inr (inl ends) ↦ inr (inl (inr ends))
                    | inr (inr after) ↦ inr (inr after)
                  ])
            ]
          ]
        ]

  -- ---- the rounds

  pub executions-reach-served : ServedAreCheckedSoon {H = H} {P = P} mac answers → ExecutionsReachServed {H = H} {P = P} mac answers
  executions-reach-served checked first start last xs r later p by fresh execution role waits unanswered from done between run passing enough =
      elim (timeout-on mac answers by p.number path (answered_at start p) r.now (omega (arith, from)) r.timeout start run.0 run.2 run.3 p done run.4 sound_start sound_mid line (λ m is. is) refl refl) [
        | inl (id, out) ↦ inr (inl (r, id, inl refl, out))
        | inr (other, w) ↦ elim (kept-on start p by r.now (omega (arith, from)) r.following run.0 run.1 (λ x has. between x has) sound_mid run.5
            (record { waits = w; stays = stays; quiet = quiet; rules = ap (λ (b : Base). is_modern b.timing) after-call.0 })) [
              | inl accepts ↦ inl (r, inl refl, accepts)
              | inr (inl ends) ↦ inr (inr (inr (inl ends)))
              | inr (inr k) ↦ from-second later k run.6 (λ x has. passing x has) enough
            ]
      ] where
        path : Path
        path = path_of start p

        controls : start.controlling ≡ true
        controls = cc

        sound_start : IsSound start
        sound_start = sound-execution mac answers xs first start (subst (λ (a : AgentRecord H P). IsSound a) (sym fresh.2) (fresh_sound H P first.provider fresh.0 fresh.1)) execution

        sound_mid : IsSound run.0
        sound_mid = (path_theorem mac answers start run.0 run.2 run.3 (HandleTimeout r.now) r.timeout sound_start tt run.4).1

        sound_next : IsSound run.1
        sound_next = sound-execution mac answers r.following run.0 run.1 sound_mid run.5

        to-next : Execution mac answers ((xs ++ (HandleTimeout r.now, r.timeout) ∷ []) ++ r.following) first run.1
        to-next = execution_on mac answers (xs ++ (HandleTimeout r.now, r.timeout) ∷ []) r.following first run.0 run.1
            (execution_on mac answers xs ((HandleTimeout r.now, r.timeout) ∷ []) first start run.0 execution (run.0, run.2, run.3, tt, run.4, refl)) run.5

        line : Lined r.now by start p
        line = lined-unanswered r.now by start p waits unanswered

        quiet : Quiet run.0
        quiet = quiet-timeout mac answers r.now r.timeout start run.0 run.2 run.3 sound_start
            (record { full = waits.checking.full; invalid = λ q has. (let none = unanswered.invalid in none q has); quiet = due-none start sound_start controls waits.checking.full unanswered.calm }) run.4

        after-call : (agent_base run.0 ≡ record (agent_base (timeout_begun r.now start)) { last_time = Some r.now; ahead_turn = run.0.ahead_turn }) × Follows start.pairs run.0.pairs
        after-call = timeout-follows mac r.now (timeout_begun r.now start) run.0 run.2 run.3 r.timeout.emitted waits.checking.peer waits.checking.full
            (maintains_pairs-from mac r.now start run.2 run.3 r.timeout.emitted run.0 waits.queue (passed-at mac answers start run.0 run.2 run.3 r.now r.timeout done run.4))

        stays : Stays start p run.0
        stays = elim (pairs-stay mac answers start run.0 run.2 run.3 (HandleTimeout r.now) r.timeout p sound_start tt run.4 waits.there) [
          | inl still ↦ still
          | inr (was_done, none, gone) ↦ (
              let few = line.young in
              let young : nat_lt (unanswered_count p.checks) start.timing.max_retransmits ≡ true = lt-is (unanswered_count p.checks) start.timing.max_retransmits (omega (arith, few)) in
              let no : false ≡ true = ap not (sym gone) ∙ lasts-young r.now start p line.checking.full (answered-if start p r.now sound_start line.there (search line.lasting)) young in absurd (cc))
        ]

        from-second : (rounds : List (ExecutionRound P)) → Kept start p by r.now run.1 → (more : PassRounds mac answers rounds run.1 last) → ((x : ExecutionRound P) → Has rounds x → IsOpenRound (is_modern start.timing) by x)
            → SufficesForServed mac answers start p rounds run.1 last more
            → Accepted (r ∷ rounds) ⊎ IsReached mac answers (r ∷ rounds) start last (run.0, run.1, run.2, run.3, run.4, run.5, more) path
        from-second [] k more opens s = absurd (let few = s.few in let o : IsOvertakenAmong mac answers p.number s.m [] run.1 last more = none s.m (let enough = s.enough in omega (arith, enough)) in search (few, o)) where
          none : (m : ℕ) → 2 * m ≤ 0 → m ≡ 0
          none m few = omega (arith, few)
        from-second (second ∷ rounds) k more opens s =
            elim (silent-rounds (is_modern start.timing) (second ∷ rounds) run.1 last k.rules sound_next k.quiet (λ x has. (let round = opens x has in λ y there. (let in_round = round.between in in_round y there))) more) [
              | inl (x, has, accepts) ↦ inl (x, inr has, accepts)
              | inr silent ↦ by-path (served-executions checked first run.1 last ((xs ++ (HandleTimeout r.now, r.timeout) ∷ []) ++ r.following) second rounds v.pair by s.m fresh to-next
                  (record {
                    checking = v.checking;
                    queue = v.queue;
                    there = v.there;
                    due = subst (λ d. d ≤ by) (sym (due-at second.now v.timeout run.1.timing v.pair v.due)) v.before;
                    settled = inl (k.quiet.invalid v.pair v.there);
                    young = lt-from (unanswered_count v.pair.checks) run.1.timing.max_retransmits v.young;
                    lasting = λ valid. never valid;
                  })
                  (record { modern = search (rule); requested = search (requested); invalid = λ valid. none valid }) more (λ x has. subst (λ b. IsOpenRound b by x) (sym k.rules) (opens x has)) (λ x has valid. never valid) (λ x has. silent x has) (let enough = s.enough in omega (arith, enough)))
            ] where
              v : Waits by p.number path (answered_at start p) r.now run.1
              v = k.waits

              never : {Any : Type 0} → is_valid v.pair ≡ true → Any
              never valid = no-case (sym (k.quiet.invalid v.pair v.there) ∙ valid)

              none : IsValidOn run.1 (path_of run.1 v.pair) → ⊥
              none (q, there, valid, on) = no-case (sym (k.quiet.invalid q there) ∙ valid)

              rule : is_modern run.1.timing ≡ true
              rule = let was : is_modern start.timing ≡ true = search (s.served.modern) in k.rules ∙ was

              requested : nat_lt 0 v.pair.requests ≡ true
              requested =
                  let one : k.stays.pair ≡ v.pair = one_pair run.1.pairs k.stays.pair v.pair (rising-each run.1.pairs sound_next.rising) k.stays.there v.there (k.stays.number ∙ sym v.number) in
                  subst (λ (x : PairRecord). nat_lt 0 x.requests ≡ true) one (k.stays.requested (search (s.served.requested)))

              by-path : ChecksAmong (second ∷ rounds) (path_of run.1 v.pair)
                  ⊎ (IsAnsweredAmong (second ∷ rounds) (path_of run.1 v.pair)
                  ⊎ (EndsAmong mac answers (second ∷ rounds) run.1 last more (path_of run.1 v.pair) ⊎ IsOvertakenAmong mac answers v.pair.number s.m (second ∷ rounds) run.1 last more))
                  → Accepted (r ∷ second ∷ rounds) ⊎ IsReached mac answers (r ∷ second ∷ rounds) start last (run.0, run.1, run.2, run.3, run.4, run.5, more) path
              by-path (inl (x, id, has, out)) = inr (inl (x, id, inr has, subst (λ w. x.timeout.emitted.issued ≡ Some (issued_as w class.Request id)) v.on out))
              by-path (inr (inl (x, has, answered))) = inr (inr (inl (x, inr has, subst (λ w. IsAnsweredAlong x.following w) v.on answered)))
              by-path (inr (inr (inl ends))) = inr (inr (inr (inr (subst (λ w. EndsAmong mac answers (second ∷ rounds) run.1 last more w) v.on ends))))
              by-path (inr (inr (inr overtaken))) =
                  absurd (let few = s.few in let o : IsOvertakenAmong mac answers p.number s.m (second ∷ rounds) run.1 last more = subst (λ i. IsOvertakenAmong mac answers i s.m (second ∷ rounds) run.1 last more) v.number overtaken in search (few, o))

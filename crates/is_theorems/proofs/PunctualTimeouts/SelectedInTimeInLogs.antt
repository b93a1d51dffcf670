-- A path is selected in time in the rounds of a log. What mutants/specifications changes is read by tactics.
use Rattle.is_theorems.specs.OpenRounds.{ArePlain}
use Rattle.is_theorems.specs.TimedSelections.{AcceptsInBy, logged_times, OvertakeLater, PathsAreSelectedInTime, SelectsInBy}
use Rattle.is_theorems.proofs.Common.{[], ◌*◌, ◌++◌, ◌+◌, ◌∙◌, ◌∷◌, ◌≡◌, ◌≤◌, ◌⊎◌, AcceptsBy, AcceptsSuccess, AgentRecord, ap, append-nil}
use Rattle.is_theorems.proofs.Common.{append_assoc, AreBetween, AreInRound, arith, Bool, Call, CandidateRecord, ControlsAlong, Done}
use Rattle.is_theorems.proofs.Common.{EndsAmong, entries_of, Entry, Execution, ExecutionRound, ExecutionRounds, ExecutionsSelectInTime}
use Rattle.is_theorems.proofs.Common.{HandleTimeout, Has, in_any_role, inl, inr, is_between, is_in_round, is_modern, is_some}
use Rattle.is_theorems.proofs.Common.{IsAnsweredWithin, IsControllingIn, IsEndedIn, IsOpenRound, IsOvertaken, IsOvertakenAmong}
use Rattle.is_theorems.proofs.Common.{IsOvertakenIn, IsPassing, last_of, length, List, Logged, LoggedRound, PassRounds, Path, path_of, refl}
use Rattle.is_theorems.proofs.Common.{RunsOn, SelectsBy, SendsCheckOn, Step, Stream, subst, suc, SufficeForCheck, SufficeForDue, Suffices}
use Rattle.is_theorems.proofs.Common.{sym, times_of, true, ℕ}
use Rattle.is_theorems.proofs.CallEffects.ExternalViews.{Has-front, Has-rear}
use Rattle.is_theorems.proofs.ExecutionLogs.LogSegments.{now-controlling, starts-controlling}
use Rattle.is_theorems.proofs.ExecutionLogs.SegmentsAsExecutions.{among_onto, calls_onto, execution_from, execution_onto, execution_to}
use Rattle.is_theorems.proofs.ExecutionLogs.SegmentsAsExecutions.{onto_has, pass_from, pass_onto, round_from, rounds_count, rounds_is}
use Rattle.is_theorems.proofs.ExecutionLogs.SegmentsAsExecutions.{rounds_onto, split-run}
use Rattle.is_theorems.proofs.PunctualTimeouts.ChecksInTimeInLogs.{call-is, timed}
use Rattle.is_theorems.proofs.UrgentPairs.RoundsOfUrgentPairs.{split-overtaken}

module _ {P : Type 0} where
  -- ---- the rounds of a log in parts

  onto-join : (xs ys : List (LoggedRound P)) (more : List (ExecutionRound P)) → rounds_onto (xs ++ ys) more ≡ rounds_onto ys (rounds_onto xs more)
  onto-join [] ys more = refl
  onto-join (x ∷ xs) ys more = onto-join xs ys (round_from x ∷ more)

  onto-front : (xs : List (LoggedRound P)) (more : List (ExecutionRound P)) → rounds_onto xs more ≡ rounds_onto xs [] ++ more
  onto-front [] more = refl
  onto-front (x ∷ older) more =
      onto-front older (round_from x ∷ more)
      ∙ (sym (append_assoc (rounds_onto older []) (round_from x ∷ []) more)
      ∙ ap (λ (l : List (ExecutionRound P)). l ++ more) (sym (onto-front older (round_from x ∷ []))))

  -- all rounds: a first one, later ones, and more
  whole : (r : LoggedRound P) (later more : List (LoggedRound P)) → rounds_onto (more ++ (later ++ r ∷ [])) [] ≡ round_from r ∷ (rounds_onto later [] ++ rounds_onto more [])
  whole r later more =
      onto-join more (later ++ r ∷ []) []
      ∙ (onto-join later (r ∷ []) (rounds_onto more [])
      ∙ ap (λ (l : List (ExecutionRound P)). round_from r ∷ l) (onto-front later (rounds_onto more [])))

  round-of : (rounds : List (LoggedRound P)) (y : ExecutionRound P) → Has (rounds_onto rounds []) y → (x : LoggedRound P) × Has rounds x × (round_from x ≡ y)
  round-of rounds y has = elim (rounds_is rounds [] y has) [ inl found ↦ found | inr none ↦ absurd none ]

  times-onto : (rounds : List (LoggedRound P)) (more : List (ExecutionRound P)) → times_of (rounds_onto rounds more) ≡ logged_times rounds ++ times_of more
  times-onto [] more = refl
  times-onto (r ∷ older) more = times-onto older (round_from r ∷ more) ∙ sym (append_assoc (logged_times older) (r.now ∷ []) (times_of more))

  times-are : (rounds : List (LoggedRound P)) → times_of (rounds_onto rounds []) ≡ logged_times rounds
  times-are rounds = times-onto rounds [] ∙ append-nil (logged_times rounds)

  -- ---- what comes in a round

  fits : (m : Bool) (rounds : List (LoggedRound P)) → ((x : LoggedRound P) → Has rounds x → (y : Logged P) → Has x.following y → is_in_round m y.call ≡ true)
      → (x : LoggedRound P) → Has rounds x → (c : ExecutionRound P) → round_from x ≡ c → AreInRound m c.following
  fits m rounds between x has c same y there =
      let z = call-is x c same y there in
      let in_round = between x has z.0 z.1 in
      subst (λ (v : Call P × Entry). is_in_round m v.0 ≡ true) z.2 (search in_round)

  plain-fits : (rounds : List (LoggedRound P)) → ArePlain rounds → (x : LoggedRound P) → Has rounds x → (c : ExecutionRound P) → round_from x ≡ c → AreBetween c.following
  plain-fits rounds plain x has c same y there =
      let z = call-is x c same y there in
      let between = plain x has z.0 z.1 in
      subst (λ (v : Call P × Entry). is_between v.0 ≡ true) z.2 (search between)

  passes : (m : Bool) (by : ℕ) (x : LoggedRound P) (c : ExecutionRound P) → round_from x ≡ c → AreInRound m c.following → IsPassing m by x → IsOpenRound m by c
  passes m by x c same between passing = record {
    done = subst (λ (d : ExecutionRound P). d.timeout.answer ≡ Done) same passing.done;
    late = (let late = passing.late in let at = ap (λ (d : ExecutionRound P). d.now) same in omega (arith, late, at));
    early = (let early = passing.early in let at = ap (λ (d : ExecutionRound P). d.now) same in omega (arith, early, at));
    between = λ y has. between y has;
  }

  -- ---- a success response

  accepts-from : (limit : ℕ) (older : List (LoggedRound P)) (more : List (ExecutionRound P)) → ((x : LoggedRound P) → Has older x → x.now ≤ limit) → AcceptsBy limit more → AcceptsBy limit (rounds_onto older more)
  accepts-from limit [] more in_time accepts = accepts
  accepts-from limit (x ∷ older) more in_time accepts =
      accepts-from limit older (round_from x ∷ more) (λ y has. in_time y (inr has)) (in_time x (inl refl), inr accepts)

  accepts : (limit : ℕ) (rounds : List (LoggedRound P)) → AcceptsInBy limit rounds → AcceptsBy limit (rounds_onto rounds [])
  accepts limit rounds k =
      subst (λ (l : List (ExecutionRound P)). AcceptsBy limit l) (sym (ap (λ (l : List (LoggedRound P)). rounds_onto l []) k.split ∙ onto-join k.newer (k.round ∷ k.older) []))
      (accepts-from limit k.older (round_from k.round ∷ rounds_onto k.newer []) (λ y has. before y (inr has)) (
        before k.round (inl refl),
        inl ((k.response.call, k.response.entry), onto_has k.round.following [] k.response (inl k.received), search k.accepted),
      )) where
        before : (y : LoggedRound P) → Has (k.round ∷ k.older) y → y.now ≤ limit
        before y has = let le = k.in_time y has in omega (arith, le)

  selects-in : (limit : ℕ) (rounds : List (LoggedRound P)) → SelectsBy limit (rounds_onto rounds []) → SelectsInBy limit rounds
  selects-in limit rounds (c, has, (y, there, success, selected), soon) =
      let x = round-of rounds c has in
      let z = call-is x.0 c x.2 y there in
      let at = ap (λ (d : ExecutionRound P). d.now) x.2 in
      record {
        round = x.0;
        there = x.1;
        response = z.0;
        received = z.1;
        accepted = subst (λ (v : Call P × Entry). AcceptsSuccess v.0 v.1) (sym z.2) success;
        selected = subst (λ (v : Call P × Entry). is_some (last_of v.1.emitted.selected_paths) ≡ true) (sym z.2) selected;
        in_time = omega (arith, soon, at);
      }

module _ {H P : Type 0} (mac : H → List ℕ → List ℕ → List ℕ) (answers : P → CandidateRecord → ℕ → ℕ → Type 0) where
  -- ---- the agent is controlling in the rounds

  along-from : (more : List (Call P × Entry)) (a b last : AgentRecord H P) (same : a ≡ b) (execution : Execution mac answers more a last) → ControlsAlong mac answers more a last execution
      → ControlsAlong mac answers more b last (execution_from mac answers more a b last same execution)
  along-from [] a b last same execution along = tt
  along-from (x ∷ rest) a b last same (mid, s, t, given, step, execution) along = along

  along-onto : (xs : List (Logged P)) (more : List (Call P × Entry)) (before : List (Logged P)) (start mid last : AgentRecord H P) (s t : Stream)
      → (run : RunsOn mac answers before start s xs mid t) → IsControllingIn mac answers before start s xs mid t run
      → (execution : Execution mac answers more mid last) → ControlsAlong mac answers more mid last execution
      → ControlsAlong mac answers (calls_onto xs more) start last (execution_onto mac answers xs more before start mid last s t run execution)
  along-onto [] more before start mid last s t is role execution along = along-from more mid start last is.0 execution along
  along-onto (x ∷ older) more before start mid last s t (old, u, run, number, given, step) role execution along =
      along-onto older ((x.call, x.entry) ∷ more) before start old last s u run role.1 (mid, u, t, given, step, execution) (role.0, along)

  -- so it is in two parts of a segment
  both-control : (before : List (Logged P)) (start last : AgentRecord H P) (u t : Stream) (xs older : List (Logged P)) → (run : RunsOn mac answers before start u (xs ++ older) last t)
      → IsControllingIn mac answers before start u (xs ++ older) last t run
      → IsControllingIn mac answers before start u older (split-run mac answers before start last u t xs older run).0 (split-run mac answers before start last u t xs older run).1 (split-run mac answers before start last u t xs older run).2
      × IsControllingIn mac answers (older ++ before) (split-run mac answers before start last u t xs older run).0 (split-run mac answers before start last u t xs older run).1 xs last t (split-run mac answers before start last u t xs older run).3
  both-control before start last u t [] older run role = (role, now-controlling mac answers before start last u t older run role)
  both-control before start last u t (x ∷ xs) older (m, v, run, number, given, step) role =
      let k = both-control before start m u v xs older run role.1 in
      (k.0, (role.0, k.1))

  abbrev rounds-from : (more : List (ExecutionRound P)) (a b last : AgentRecord H P) → a ≡ b → ExecutionRounds mac answers more a last → ExecutionRounds mac answers more b last
  rounds-from [] a b last same is = is ∙ same
  rounds-from (r ∷ later) a b last same (mid, next, s, t, step, role, execution, along, more) =
      (mid, next, s, t, subst (λ (z : AgentRecord H P). Step mac answers z s (HandleTimeout r.now) r.timeout mid t) same step, role, execution, along, more)

  abbrev Comes : List (LoggedRound P) → Type 0
  Comes rounds = (r : LoggedRound P) → Has rounds r → r.timeout.call ≡ HandleTimeout r.now

  abbrev rounds-onto : (rounds : List (LoggedRound P)) (more : List (ExecutionRound P)) (before : List (Logged P)) (start mid last : AgentRecord H P) (s t : Stream) → Comes rounds
      → (run : RunsOn mac answers before start s (entries_of rounds) mid t) → IsControllingIn mac answers before start s (entries_of rounds) mid t run
      → ExecutionRounds mac answers more mid last → ExecutionRounds mac answers (rounds_onto rounds more) start last
  rounds-onto [] more before start mid last s t comes is role execution = rounds-from more mid start last is.0 execution
  rounds-onto (r ∷ older) more before start mid last s t comes run role execution =
      let h = split-run mac answers before start mid s t r.following (r.timeout ∷ entries_of older) run in
      let roles = both-control before start mid s t r.following (r.timeout ∷ entries_of older) run role in
      rounds-onto older (round_from r ∷ more) before start h.2.0 last s h.2.1 (λ x has. comes x (inr has)) h.2.2 roles.0.1 (
        h.0,
        mid,
        h.2.1,
        h.1,
        subst (λ (c : Call P). Step mac answers h.2.0 h.2.1 c r.timeout.entry h.0 h.1) (comes r (inl refl)) h.2.5,
        roles.0.0,
        execution_onto mac answers r.following [] ((r.timeout ∷ entries_of older) ++ before) h.0 mid mid h.1 t h.3 refl,
        along-onto r.following [] ((r.timeout ∷ entries_of older) ++ before) h.0 mid mid h.1 t h.3 roles.1 refl tt,
        execution,
      )

  -- ---- the same rounds in any role

  any-from : (more : List (ExecutionRound P)) (a b last : AgentRecord H P) (same : a ≡ b) (execution : ExecutionRounds mac answers more a last)
      → in_any_role mac answers more b last (rounds-from more a b last same execution) ≡ pass_from mac answers more a b last same (in_any_role mac answers more a last execution)
  any-from [] a b last same execution = refl
  any-from (r ∷ later) a b last same execution = refl

  any-onto : (rounds : List (LoggedRound P)) (more : List (ExecutionRound P)) (before : List (Logged P)) (start mid last : AgentRecord H P) (s t : Stream) (comes : Comes rounds)
      → (run : RunsOn mac answers before start s (entries_of rounds) mid t) (role : IsControllingIn mac answers before start s (entries_of rounds) mid t run)
      → (execution : ExecutionRounds mac answers more mid last)
      → in_any_role mac answers (rounds_onto rounds more) start last (rounds-onto rounds more before start mid last s t comes run role execution)
      ≡ pass_onto mac answers rounds more before start mid last s t comes run (in_any_role mac answers more mid last execution)
  any-onto [] more before start mid last s t comes is role execution = any-from more mid start last is.0 execution
  any-onto (r ∷ older) more before start mid last s t comes run role execution =
      let h = split-run mac answers before start mid s t r.following (r.timeout ∷ entries_of older) run in
      let roles = both-control before start mid s t r.following (r.timeout ∷ entries_of older) run role in
      any-onto older (round_from r ∷ more) before start h.2.0 last s h.2.1 (λ x has. comes x (inr has)) h.2.2 roles.0.1 (
        h.0,
        mid,
        h.2.1,
        h.1,
        subst (λ (c : Call P). Step mac answers h.2.0 h.2.1 c r.timeout.entry h.0 h.1) (comes r (inl refl)) h.2.5,
        roles.0.0,
        execution_onto mac answers r.following [] ((r.timeout ∷ entries_of older) ++ before) h.0 mid mid h.1 t h.3 refl,
        along-onto r.following [] ((r.timeout ∷ entries_of older) ++ before) h.0 mid mid h.1 t h.3 roles.1 refl tt,
        execution,
      )

  -- what may remove a pair in the rounds of the execution may do so in the segment
  ended-in : (m : Bool) (path : Path) (rounds : List (LoggedRound P)) (more : List (ExecutionRound P)) (before : List (Logged P)) (start mid last : AgentRecord H P) (s t : Stream) (comes : Comes rounds)
      → ((r : LoggedRound P) → Has rounds r → (x : Logged P) → Has r.following x → is_in_round m x.call ≡ true)
      → (run : RunsOn mac answers before start s (entries_of rounds) mid t) (role : IsControllingIn mac answers before start s (entries_of rounds) mid t run) (execution : ExecutionRounds mac answers more mid last)
      → EndsAmong mac answers (rounds_onto rounds more) start last (in_any_role mac answers (rounds_onto rounds more) start last (rounds-onto rounds more before start mid last s t comes run role execution)) path
      → IsEndedIn mac answers before start s (entries_of rounds) mid t run path ⊎ EndsAmong mac answers more mid last (in_any_role mac answers more mid last execution) path
  ended-in m path rounds more before start mid last s t comes between run role execution ended =
      among_onto mac answers m path rounds more before start mid last s t comes between run (in_any_role mac answers more mid last execution)
      (subst (λ (z : PassRounds mac answers (rounds_onto rounds more) start last). EndsAmong mac answers (rounds_onto rounds more) start last z path)
      (any-onto rounds more before start mid last s t comes run role execution) ended)

  -- ---- how many rounds check other pairs before the one with the number

  overtaken-from : (n k : ℕ) (more : List (ExecutionRound P)) (a b last : AgentRecord H P) (same : a ≡ b) (pass : PassRounds mac answers more a last)
      → IsOvertakenAmong mac answers n k more b last (pass_from mac answers more a b last same pass) → IsOvertakenAmong mac answers n k more a last pass
  overtaken-from n k [] a b last same pass overtaken = overtaken
  overtaken-from n k (r ∷ later) a b last same pass (inl others) = inl others
  overtaken-from n k (r ∷ later) a b last same pass (inr (j, is, here, others)) =
      inr (j, is, subst (λ (z : AgentRecord H P). IsOvertaken n r.now z r.timeout.emitted) (sym same) here, others)

  overtaken-onto : (n k : ℕ) (rounds : List (LoggedRound P)) (more : List (ExecutionRound P)) (before : List (Logged P)) (start mid last : AgentRecord H P) (s t : Stream) (comes : Comes rounds)
      → (run : RunsOn mac answers before start s (entries_of rounds) mid t) (pass : PassRounds mac answers more mid last)
      → IsOvertakenAmong mac answers n k (rounds_onto rounds more) start last (pass_onto mac answers rounds more before start mid last s t comes run pass)
      → (i j : ℕ) × (k ≡ i + j) × IsOvertakenIn mac answers n i before start s (entries_of rounds) mid t run × IsOvertakenAmong mac answers n j more mid last pass
  overtaken-onto n k [] more before start mid last s t comes is pass overtaken = (0, k, none k, refl, overtaken-from n k more mid start last is.0 pass overtaken) where
    none : (k : ℕ) → k ≡ 0 + k
    none k = omega arith
  overtaken-onto n k (r ∷ older) more before start mid last s t comes run pass overtaken =
      let h = split-run mac answers before start mid s t r.following (r.timeout ∷ entries_of older) run in
      by-parts {Here = λ now. IsOvertaken n now h.2.0 r.timeout.entry.emitted} (λ i later. split-overtaken mac answers n i before start mid s t r.following (r.timeout ∷ entries_of older) run later)
      (overtaken-onto n k older (round_from r ∷ more) before start h.2.0 last s h.2.1 (λ x has. comes x (inr has)) h.2.2 (
        h.0,
        mid,
        h.2.1,
        h.1,
        subst (λ (c : Call P). Step mac answers h.2.0 h.2.1 c r.timeout.entry h.0 h.1) (comes r (inl refl)) h.2.5,
        execution_onto mac answers r.following [] ((r.timeout ∷ entries_of older) ++ before) h.0 mid mid h.1 t h.3 refl,
        pass,
      ) overtaken) where
        by-parts : {Whole In Among Here : ℕ → Type 0}
            → ((i : ℕ) → (In i ⊎ ((now c : ℕ) × (i ≡ suc c) × (r.timeout.call ≡ HandleTimeout now) × Here now × In c)) → Whole i)
            → ((i j : ℕ) × (k ≡ i + j) × In i × (Among j ⊎ ((c : ℕ) × (j ≡ suc c) × Here r.now × Among c)))
            → (i j : ℕ) × (k ≡ i + j) × Whole i × Among j
        by-parts joins (i, j, all, older_ones, inl others) = (i, j, all, joins i (inl older_ones), others)
        by-parts joins (i, j, all, older_ones, inr (c, is, here, others)) =
            (suc i, c, moved i j c (omega (arith, all)) is, joins (suc i) (inr (r.now, i, refl, comes r (inl refl), here, older_ones)), others) where
              moved : (i j c : ℕ) → k ≡ i + j → j ≡ suc c → k ≡ suc i + c
              moved i j c all is = omega (arith, all, is)

  -- ---- the theorem

  pub selected-in-time : ExecutionsSelectInTime {H = H} {P = P} mac answers → PathsAreSelectedInTime {H = H} {P = P} mac answers
  selected-in-time select first s log fresh k p by pace delay trip f =
      elim (select first k.start k.end k.last (calls_onto k.before []) r later more p by pace delay trip fresh
      (execution_to mac answers k.before first k.start k.start [] s k.one.at k.one.led refl) (starts-controlling mac answers k.before k.start k.second k.one.at k.one.following (entries_of (k.opening ∷ [])) k.one.run (search k.controls))
      f.waits f.unanswered (let due = f.due in omega (arith, due)) f.done (let early = f.early in omega (arith, early))
      (λ y has. between r (inl refl) y has) run onward (λ y has. passed y has) (λ y has. between y (inr (Has-rear later more y has))) enough (timed pace delay k.start k.opening k.later f.timed) answered) [
        | inl selected_by ↦ inl (bounded (selects-in limit rounds (subst (λ (l : List (ExecutionRound P)). SelectsBy limit l) (sym all) (subst (λ n. SelectsBy (r.now + n * (pace + delay) + trip) execution_rounds) count selected_by))))
        | inr ended ↦ inr (elim (ended-in (is_modern k.start.timing) path (k.opening ∷ []) later k.before k.start k.second k.end k.one.at k.one.following opens (λ x has. fits_at x (opening-in x has)) k.one.run k.controls run_later ended) [
          | inl here ↦ inl (search here)
          | inr others ↦ elim (ended-in (is_modern k.start.timing) path k.later [] (entries_of (k.opening ∷ []) ++ k.before) k.second k.end k.end k.others.at k.others.following comes_later (λ x has. fits_at x (later-in x has)) k.others.run role_later refl others) [
            | inl there ↦ inr (search there)
            | inr none ↦ absurd none
          ]
        ])
      ] where
        path : Path
        path = path_of k.start p

        rounds : List (LoggedRound P)
        rounds = k.more ++ (k.later ++ k.opening ∷ [])

        limit : ℕ
        limit = k.opening.now + length k.later * (pace + delay) + trip

        r : ExecutionRound P
        r = round_from k.opening

        later : List (ExecutionRound P)
        later = rounds_onto k.later []

        more : List (ExecutionRound P)
        more = rounds_onto k.more []

        execution_rounds : List (ExecutionRound P)
        execution_rounds = r ∷ (later ++ more)

        all : rounds_onto rounds [] ≡ execution_rounds
        all = whole k.opening k.later k.more

        count : length later ≡ length k.later
        count = let same : length later ≡ length k.later + 0 = rounds_count k.later [] in omega (arith, same)

        bounded : SelectsInBy limit rounds → SelectsInBy (k.opening.now + length k.later * (pace + delay) + trip) (k.more ++ (k.later ++ k.opening ∷ []))
        bounded found = record {
          round = found.round;
          there = found.there;
          response = found.response;
          received = found.received;
          accepted = found.accepted;
          selected = found.selected;
          in_time = (let in_time = found.in_time in omega (arith, in_time));
        }

        fits_at : (x : LoggedRound P) → Has rounds x → (y : Logged P) → Has x.following y → is_in_round (is_modern k.start.timing) y.call ≡ true
        fits_at x has y there = search (k.between x has y there)

        later-in : (x : LoggedRound P) → Has k.later x → Has rounds x
        later-in x has = Has-rear k.more (k.later ++ k.opening ∷ []) x (Has-front k.later (k.opening ∷ []) x has)

        opening-in : (x : LoggedRound P) → Has (k.opening ∷ []) x → Has rounds x
        opening-in x has = Has-rear k.more (k.later ++ k.opening ∷ []) x (Has-rear k.later (k.opening ∷ []) x has)

        opens : Comes (k.opening ∷ [])
        opens x has = k.comes x (opening-in x has)

        comes_later : Comes k.later
        comes_later x has = k.comes x (later-in x has)

        round-at : (y : ExecutionRound P) → Has execution_rounds y → (x : LoggedRound P) × Has rounds x × (round_from x ≡ y)
        round-at y has = round-of rounds y (subst (λ (l : List (ExecutionRound P)). Has l y) (sym all) has)

        between : (y : ExecutionRound P) → Has execution_rounds y → AreInRound (is_modern k.start.timing) y.following
        between y has = let x = round-at y has in fits (is_modern k.start.timing) rounds (λ z there v inside. fits_at z there v inside) x.0 x.1 y x.2

        passed : (y : ExecutionRound P) → Has later y → IsOpenRound (is_modern k.start.timing) by y
        passed y has =
            let x = round-of k.later y has in
            passes (is_modern k.start.timing) by x.0 y x.2 (λ v inside. between y (inr (Has-front later more y has)) v inside) (f.passing x.0 x.1)

        answered : IsAnsweredWithin trip execution_rounds (path_of k.start p)
        answered y has sends =
            let x = round-at y has in
            subst (λ (l : List (ExecutionRound P)). AcceptsBy (y.now + trip) l) all
            (subst (λ (c : ExecutionRound P). AcceptsBy (c.now + trip) (rounds_onto rounds [])) x.2
            (accepts (x.0.now + trip) rounds (search (f.answered x.0 x.1 (subst (λ (c : ExecutionRound P). SendsCheckOn c.timeout (path_of k.start p)) (sym x.2) sends)))))

        role_later : IsControllingIn mac answers (entries_of (k.opening ∷ []) ++ k.before) k.second k.others.at (entries_of k.later) k.end k.others.following k.others.run
        role_later = search k.controls_later

        run_later : ExecutionRounds mac answers later k.second k.end
        run_later = rounds-onto k.later [] (entries_of (k.opening ∷ []) ++ k.before) k.second k.end k.end k.others.at k.others.following comes_later k.others.run role_later refl

        run : ExecutionRounds mac answers (r ∷ later) k.start k.end
        run = rounds-onto (k.opening ∷ []) later k.before k.start k.second k.end k.one.at k.one.following opens k.one.run k.controls run_later

        onward : ExecutionRounds mac answers more k.end k.last
        onward =
            rounds-onto k.more [] (entries_of k.later ++ (entries_of (k.opening ∷ []) ++ k.before)) k.end k.last k.last k.onward.at k.onward.following
            (λ x has. k.comes x (Has-front k.more (k.later ++ k.opening ∷ []) x has)) k.onward.run (search k.controls_onward) refl

        plain-round : ArePlain (k.later ++ k.opening ∷ []) → (x : ExecutionRound P) → Has (r ∷ later) x → AreBetween x.following
        plain-round plain x (inl is) = plain-fits (k.later ++ k.opening ∷ []) plain k.opening (Has-rear k.later (k.opening ∷ []) k.opening (inl refl)) x is
        plain-round plain x (inr has) = let z = round-of k.later x has in plain-fits (k.later ++ k.opening ∷ []) plain z.0 (Has-front k.later (k.opening ∷ []) z.0 z.1) x z.2

        -- what overtakes the pair in the execution does so in the log
        in-log : (m : ℕ) → IsOvertakenAmong mac answers p.number m later k.second k.end (in_any_role mac answers later k.second k.end run_later) → OvertakeLater mac answers k p.number m
        in-log m overtaken =
            let both = overtaken-onto p.number m k.later [] (entries_of (k.opening ∷ []) ++ k.before) k.second k.end k.end k.others.at k.others.following comes_later k.others.run refl
            (subst (λ (z : PassRounds mac answers later k.second k.end). IsOvertakenAmong mac answers p.number m later k.second k.end z)
            (any-onto k.later [] (entries_of (k.opening ∷ []) ++ k.before) k.second k.end k.end k.others.at k.others.following comes_later k.others.run role_later refl) overtaken) in
            let all : m ≡ both.0 = whole m both.0 both.1 both.2 both.4 in
            subst (λ i. OvertakeLater mac answers k p.number i) (sym all) both.3 where
              whole : (m i j : ℕ) → m ≡ i + j → j ≡ 0 → m ≡ i
              whole m i j all none = omega (arith, all, none)

        enough : SufficeForCheck mac answers by p k.start k.second k.end r later (in_any_role mac answers later k.second k.end run_later)
        enough = elim f.enough [
          | inl (plain, few) ↦ inl (λ x has. plain-round plain x has, subst (λ ts. SufficeForDue by r.now k.start k.second ts) (sym (times-are k.later)) (search few))
          | inr (inl many) ↦ inr (inl (subst (λ n. Suffices by r.now k.start k.second k.end n 0 0) (sym count) (search many)))
          | inr (inr served) ↦ inr (inr (record {
            served = search (served.served);
            m = served.m;
            enough = (let few = served.enough in omega (arith, count, few));
            few = λ overtaken. (let few = served.few in let o : OvertakeLater mac answers k p.number served.m = in-log served.m overtaken in search (few, o));
          }))
        ]

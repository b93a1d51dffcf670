-- A pair is checked in time in the rounds of a log. What mutants/specifications changes is read by tactics.
use Rattle.is_theorems.proofs.Common.{[], ◌*◌, ◌++◌, ◌+◌, ◌<◌, ◌∙◌, ◌∷◌, ◌≡◌, ◌≤◌, ◌⊎◌, AcceptsSuccessOn, AgentRecord, all_entries, ap}
use Rattle.is_theorems.proofs.Common.{arith, Bool, Call, CandidateRecord, checks_for, Done, entries_of, Entry, ExecutionRound}
use Rattle.is_theorems.proofs.Common.{ExecutionsReachInTime, HandleTimeout, Has, inl, inr, is_in_round, is_modern, IsAnsweredAlong}
use Rattle.is_theorems.proofs.Common.{IsAnsweredIn, IsFresh, IsInLine, IsLasting, IsOpenRound, IsPassing, IsPrompt, IsPromptIn, IsPunctual}
use Rattle.is_theorems.proofs.Common.{IsPunctualIn, IsReachedBy, IsReachedInBy, IsTimed, IsTimedIn, last_round, length, List, Logged}
use Rattle.is_theorems.proofs.Common.{LoggedRound, LoggedRoundsSuffice, MAX, nominations_ahead, PairRecord, PairsAreReachedInTime, Part}
use Rattle.is_theorems.proofs.Common.{PassRounds, Path, path_of, refl, RoundsComeInTime, RoundsSuffice, selection_count, selections_among}
use Rattle.is_theorems.proofs.Common.{SendsCheckOn, Stream, subst, sym, true, ℕ}
use Rattle.is_theorems.proofs.CallEffects.ExternalViews.{Has-front, Has-rear}
use Rattle.is_theorems.proofs.ExecutionLogs.SegmentsAsExecutions.{among_onto, calls_onto, execution_to, onto_has, onto_is, pass_onto}
use Rattle.is_theorems.proofs.ExecutionLogs.SegmentsAsExecutions.{round_from, rounds_count, rounds_is, rounds_onto}
use Rattle.is_theorems.proofs.PollingRounds.AddedCandidatesInLogs.{in_entries}
use Rattle.is_theorems.proofs.PollingRounds.CountedSelections.{selections-all, selections-onto}
use Rattle.is_theorems.proofs.PunctualTimeouts.ChecksInTime.{come-all}

module _ {P : Type 0} where
  -- ---- the rounds of a log as those of an execution

  abbrev execution_of : LoggedRound P → List (LoggedRound P) → List (ExecutionRound P)
  execution_of r later = round_from r ∷ rounds_onto later []

  round-is : (r : LoggedRound P) (later : List (LoggedRound P)) (y : ExecutionRound P) → Has (execution_of r later) y → (x : LoggedRound P) × Has (r ∷ later) x × (round_from x ≡ y)
  round-is r later y (inl is) = (r, inl refl, is)
  round-is r later y (inr has) = elim (rounds_is later [] y has) [ inl (x, there, is) ↦ (x, inr there, is) | inr none ↦ absurd none ]

  rounds-has : (rounds : List (LoggedRound P)) (more : List (ExecutionRound P)) (x : LoggedRound P) → Has rounds x ⊎ Has more (round_from x) → Has (rounds_onto rounds more) (round_from x)
  rounds-has [] more x (inl none) = absurd none
  rounds-has [] more x (inr has) = has
  rounds-has (r ∷ older) more x (inl (inl is)) = rounds-has older (round_from r ∷ more) x (inr (inl (ap (λ (y : LoggedRound P). round_from y) is)))
  rounds-has (r ∷ older) more x (inl (inr has)) = rounds-has older (round_from r ∷ more) x (inl has)
  rounds-has (r ∷ older) more x (inr has) = rounds-has older (round_from r ∷ more) x (inr (inr has))

  pub call-is : (x : LoggedRound P) (c : ExecutionRound P) → round_from x ≡ c → (y : Call P × Entry) → Has c.following y → (z : Logged P) × Has x.following z × ((z.call, z.entry) ≡ y)
  call-is x c same y has = elim (onto_is x.following [] y (subst (λ (d : ExecutionRound P). Has d.following y) (sym same) has)) [ inl found ↦ found | inr none ↦ absurd none ]

  entry-is : (r : LoggedRound P) (later : List (LoggedRound P)) (x : LoggedRound P) (z : Logged P) → Has (r ∷ later) x → Has x.following z → Has (all_entries r later) z
  entry-is r later x z (inl is) there = Has-rear (entries_of later) (entries_of (r ∷ [])) z (in_entries (r ∷ []) x z (inl is) there)
  entry-is r later x z (inr has) there = Has-front (entries_of later) (entries_of (r ∷ [])) z (in_entries later x z has there)

  fits : (m : Bool) (x : LoggedRound P) → ((z : Logged P) → Has x.following z → is_in_round m z.call ≡ true) → (c : ExecutionRound P) → round_from x ≡ c → (y : Call P × Entry) → Has c.following y → is_in_round m y.0 ≡ true
  fits m x between c same y has =
      let z = call-is x c same y has in subst (λ (v : Call P × Entry). is_in_round m v.0 ≡ true) z.2 (between z.0 z.1)

  opens : (m : Bool) (by : ℕ) (x : LoggedRound P) (c : ExecutionRound P) → round_from x ≡ c → IsPassing m by x → IsOpenRound m by c
  opens m by x c same passing = subst (λ (d : ExecutionRound P). IsOpenRound m by d) same (record {
    done = passing.done;
    late = (let late = passing.late in omega (arith, late));
    early = (let early = passing.early in omega (arith, early));
    between = λ y has. fits m x passing.between (round_from x) refl y has;
  })

  answered : (path : Path) (rounds : List (LoggedRound P)) (x : LoggedRound P) (c : ExecutionRound P) → Has rounds x → round_from x ≡ c → IsAnsweredAlong c.following path → IsAnsweredIn (entries_of rounds) path
  answered path rounds x c has same (y, there, accepts) =
      let z = call-is x c same y there in
      (z.0, in_entries rounds x z.0 has z.1, subst (λ (v : Call P × Entry). AcceptsSuccessOn v.0 v.1 path) (sym z.2) accepts)

  -- ---- what a punctual caller does

  prompt : (delay next : ℕ) (xs : List (Logged P)) → IsPromptIn delay next xs → IsPrompt delay next (calls_onto xs [])
  prompt delay next xs k =
      ((k.poll.call, k.poll.entry), k.deadline, onto_has xs [] k.poll (inl (search k.polled)), search k.call, search k.answer, (let soon = k.soon in omega (arith, soon)))

  punctual : (delay : ℕ) (r : LoggedRound P) (rounds : List (LoggedRound P)) (more : List (ExecutionRound P)) → IsPunctualIn delay r rounds → IsPunctual delay (round_from (last_round r rounds)) more
      → IsPunctual delay (round_from r) (rounds_onto rounds more)
  punctual delay r [] more k is = is
  punctual delay r (x ∷ older) more (now, earlier) is =
      punctual delay r older (round_from x ∷ more) earlier (prompt delay x.now (last_round r older).following (search now), is)

  pub timed : {H : Type 0} (pace delay : ℕ) (start : AgentRecord H P) (r : LoggedRound P) (later : List (LoggedRound P)) → IsTimedIn pace delay start r later → IsTimed pace delay start (round_from r) (rounds_onto later [])
  timed pace delay start r later k = record {
    begins = (let begins = k.begins in omega (arith, begins));
    keeps = λ c has y by there is. (
        let x = round-is r later c has in
        let z = call-is x.0 c x.2 y there in
        let le = k.keeps z.0 by (entry-is r later x.0 z.0 x.1 z.1) (ap (λ (v : Call P × Entry). v.0) z.2 ∙ is) in
        omega (arith, le));
    punctual = punctual delay r later [] k.punctual tt;
  }

module _ {H P : Type 0} where
  suffice : (by many : ℕ) (start second last : AgentRecord H P) (r : LoggedRound P) (later : List (LoggedRound P)) → LoggedRoundsSuffice by start second last r later many
      → RoundsSuffice by start second last (round_from r) (rounds_onto later []) many
  suffice by many start second last r later enough = by-case enough where
    all : checks_for (is_modern start.timing) (2 * length start.pairs + last.next_number + nominations_ahead start (selections_among (execution_of r later)))
        ≡ checks_for (is_modern start.timing) (2 * length start.pairs + last.next_number + nominations_ahead start (selection_count (all_entries r later)))
    all = ap (λ n. checks_for (is_modern start.timing) (2 * length start.pairs + last.next_number + nominations_ahead start n)) (selections-all r later)

    rest : checks_for (is_modern second.timing) (2 * length second.pairs + last.next_number + nominations_ahead second (selections_among (rounds_onto later [])))
        ≡ checks_for (is_modern second.timing) (2 * length second.pairs + last.next_number + nominations_ahead second (selection_count (entries_of later)))
    rest = ap (λ n. checks_for (is_modern second.timing) (2 * length second.pairs + last.next_number + nominations_ahead second n)) (selections-onto later)

    by-case : LoggedRoundsSuffice by start second last r later many → RoundsSuffice by start second last (round_from r) (rounds_onto later []) many
    by-case (inl (late, enough)) = inl (omega (arith, late), omega (arith, enough, all))
    by-case (inr (inl few)) = inr (inl (omega (arith, few)))
    by-case (inr (inr enough)) = inr (inr (omega (arith, enough, rest)))

  module _ (mac : H → List ℕ → List ℕ → List ℕ) (answers : P → CandidateRecord → ℕ → ℕ → Type 0) where
    -- ---- rounds of a log: a first one, and later ones

    module _ (first : AgentRecord H P) (s : Stream) (log before : List (Logged P)) (start second last : AgentRecord H P) (r : LoggedRound P) (later : List (LoggedRound P)) (p : PairRecord) (by : ℕ)
        (one : Part mac answers first s log before start (entries_of (r ∷ [])) second)
        (others : Part mac answers first s log (entries_of (r ∷ []) ++ before) second (entries_of later) last)
        (comes : r.timeout.call ≡ HandleTimeout r.now) (between : (x : Logged P) → Has r.following x → is_in_round (is_modern start.timing) x.call ≡ true)
        (passing : (x : LoggedRound P) → Has later x → IsPassing (is_modern start.timing) by x) (lasting : (x : LoggedRound P) → Has later x → IsLasting x.now start p) where
      abbrev path : Path
      path = path_of start p

      one-comes : (x : LoggedRound P) → Has (r ∷ []) x → x.timeout.call ≡ HandleTimeout x.now
      one-comes x (inl is) = subst (λ (y : LoggedRound P). y.timeout.call ≡ HandleTimeout y.now) is comes
      one-comes x (inr none) = absurd none

      one-fits : (x : LoggedRound P) → Has (r ∷ []) x → (y : Logged P) → Has x.following y → is_in_round (is_modern start.timing) y.call ≡ true
      one-fits x (inl is) = subst (λ (z : LoggedRound P). (y : Logged P) → Has z.following y → is_in_round (is_modern start.timing) y.call ≡ true) is between
      one-fits x (inr none) = absurd none

      others-come : (x : LoggedRound P) → Has later x → x.timeout.call ≡ HandleTimeout x.now
      others-come x has = (passing x has).comes

      abbrev rest : PassRounds mac answers (rounds_onto later []) second last
      rest = pass_onto mac answers later [] (entries_of (r ∷ []) ++ before) second last last others.at others.following others-come others.run refl

      abbrev run : PassRounds mac answers (execution_of r later) start last
      run = pass_onto mac answers (r ∷ []) (rounds_onto later []) before start second last one.at one.following one-comes one.run rest

      later-is : (y : ExecutionRound P) → Has (rounds_onto later []) y → (x : LoggedRound P) × Has later x × (round_from x ≡ y)
      later-is y has = elim (rounds_is later [] y has) [ inl found ↦ found | inr none ↦ absurd none ]

      opened : (y : ExecutionRound P) → Has (rounds_onto later []) y → IsOpenRound (is_modern start.timing) by y
      opened y has = let x = later-is y has in opens (is_modern start.timing) by x.0 y x.2 (passing x.0 x.1)

      lasts : (y : ExecutionRound P) → Has (rounds_onto later []) y → IsLasting y.now start p
      lasts y has = let x = later-is y has in subst (λ (c : ExecutionRound P). IsLasting c.now start p) x.2 (search (lasting x.0 x.1))

      -- a path that is reached in the execution is reached in the log
      reached : (limit : ℕ) → IsReachedBy mac answers limit (execution_of r later) start last run path → IsReachedInBy mac answers limit (r ∷ []) one path ⊎ IsReachedInBy mac answers limit later others path
      reached limit (inl (y, inl is, sent, soon)) =
          inl (inl (r, inl refl, subst (λ (c : ExecutionRound P). SendsCheckOn c.timeout path) (sym is) sent, (let same = ap (λ (c : ExecutionRound P). c.now) is in omega (arith, soon, same))))
      reached limit (inl (y, inr has, sent, soon)) =
          let x = later-is y has in
          inr (inl (x.0, x.1, subst (λ (c : ExecutionRound P). SendsCheckOn c.timeout path) (sym x.2) sent, (let same = ap (λ (c : ExecutionRound P). c.now) x.2 in omega (arith, soon, same))))
      reached limit (inr (inl (y, inl is, heard))) = inl (inr (inl (answered path (r ∷ []) r y (inl refl) is heard)))
      reached limit (inr (inl (y, inr has, heard))) = let x = later-is y has in inr (inr (inl (answered path later x.0 y x.1 x.2 heard)))
      reached limit (inr (inr ended)) =
          elim (among_onto mac answers (is_modern start.timing) path (r ∷ []) (rounds_onto later []) before start second last one.at one.following one-comes one-fits one.run rest ended) [
            | inl here ↦ inl (inr (inr here))
            | inr others-ended ↦
                elim (among_onto mac answers (is_modern start.timing) path later [] (entries_of (r ∷ []) ++ before) second last last others.at others.following others-come (λ x has. (passing x has).between) others.run refl others-ended) [
                  | inl there ↦ inr (inr (inr there))
                  | inr none ↦ absurd none
                ]
          ]

    -- ---- the theorem

    pub reached-in-time : ExecutionsReachInTime {H = H} {P = P} mac answers → PairsAreReachedInTime {H = H} {P = P} mac answers
    reached-in-time reach first s log fresh before start second last r later p by pace delay many one others line from comes done early between passing lasting enough long in_time =
        elim (reached first s log before start second last r later p by one others comes between passing lasting (r.now + many * (pace + delay))
        (reach first start last (calls_onto before []) (round_from r) (rounds_onto later []) p by pace delay many fresh
        (execution_to mac answers before first start start [] s one.at one.led refl) line (omega (arith, from)) done (omega (arith, early))
        (λ y has. fits (is_modern start.timing) r between (round_from r) refl y has) (run first s log before start second last r later p by one others comes between passing lasting)
        (opened first s log before start second last r later p by one others comes between passing lasting) (lasts first s log before start second last r later p by one others comes between passing lasting)
        (suffice by many start second last r later enough) (let count = rounds_count later [] in omega (arith, long, count)) (timed pace delay start r later in_time))) [
          | inl (inl (x, has, sent, soon)) ↦ inl (inl (x, has, sent, omega (arith, soon)))
          | inl (inr others) ↦ inl (inr others)
          | inr (inl (x, has, sent, soon)) ↦ inr (inl (x, has, sent, omega (arith, soon)))
          | inr (inr others) ↦ inr (inr others)
        ]

    -- each round begins in time, or the path is reached
    pub come-in-time : RoundsComeInTime {H = H} {P = P} mac answers → (first : AgentRecord H P) (s : Stream) (log : List (Logged P)) → IsFresh first
        → (before : List (Logged P)) (start second last : AgentRecord H P) (r : LoggedRound P) (later : List (LoggedRound P)) (p : PairRecord) (by pace delay : ℕ)
        → (one : Part mac answers first s log before start (entries_of (r ∷ [])) second)
        → (others : Part mac answers first s log (entries_of (r ∷ []) ++ before) second (entries_of later) last)
        → IsInLine r.now by start p → by ≤ r.now → r.timeout.call ≡ HandleTimeout r.now → r.timeout.entry.answer ≡ Done → r.now < MAX
        → ((x : Logged P) → Has r.following x → is_in_round (is_modern start.timing) x.call ≡ true) → ((x : LoggedRound P) → Has later x → IsPassing (is_modern start.timing) by x)
        → ((x : LoggedRound P) → Has later x → IsLasting x.now start p) → IsTimedIn pace delay start r later
        → ((x : LoggedRound P) → Has later x → x.now ≤ r.now + length later * (pace + delay))
        ⊎ (IsReachedInBy mac answers (r.now + length later * (pace + delay)) (r ∷ []) one (path_of start p)
        ⊎ IsReachedInBy mac answers (r.now + length later * (pace + delay)) later others (path_of start p))
    come-in-time come first s log fresh before start second last r later p by pace delay one others line from comes done early between passing lasting in_time =
        elim (come first start last (calls_onto before []) (round_from r) (rounds_onto later []) p by pace delay fresh
        (execution_to mac answers before first start start [] s one.at one.led refl) line (omega (arith, from)) done (omega (arith, early))
        (λ y has. fits (is_modern start.timing) r between (round_from r) refl y has) (run first s log before start second last r later p by one others comes between passing lasting)
        (opened first s log before start second last r later p by one others comes between passing lasting) (lasts first s log before start second last r later p by one others comes between passing lasting)
        (timed pace delay start r later in_time)) [
          | inl come_by ↦ inl (λ x has.
              let le : x.now ≤ r.now + length (rounds_onto later []) * (pace + delay) = come-all r.now (pace + delay) (round_from r) (rounds_onto later []) (round_from x) (inr (rounds-has later [] x (inl has))) come_by in
              subst (λ n. x.now ≤ r.now + n * (pace + delay)) count le)
          | inr found ↦ inr (reached first s log before start second last r later p by one others comes between passing lasting (r.now + length later * (pace + delay))
              (subst (λ n. IsReachedBy mac answers (r.now + n * (pace + delay)) (execution_of r later) start last (run first s log before start second last r later p by one others comes between passing lasting) (path_of start p)) count found))
        ] where
          count : length (rounds_onto later []) ≡ length later
          count = let same : length (rounds_onto later []) ≡ length later + 0 = rounds_count later [] in omega (arith, same)

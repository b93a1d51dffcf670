-- A pair is checked in time in the rounds of a log, whatever pairs packets add. What mutants/specifications changes is read by tactics.
use Rattle.is_theorems.specs.TimedSteadyRounds.{AreEnoughLater, BeginsAfter, NoneIsStarvedInTime, SteadyRounds, SufficeSteadyInTime}
use Rattle.is_theorems.specs.TimedSteadyRounds.{bound_in}
use Rattle.is_theorems.proofs.Common.{[], ◌*◌, ◌++◌, ◌+◌, ◌-◌, ◌<◌, ◌∙◌, ◌∷◌, ◌≡◌, ◌≤◌, ◌⊎◌, AgentRecord, all_entries, ap, append_assoc}
use Rattle.is_theorems.proofs.Common.{AreSteady, arith, Bool, Call, CandidateRecord, ChecksInBy, cond, ConsentLastsIn, entries_of, false}
use Rattle.is_theorems.proofs.Common.{FormsFew, gathered_count, Has, if◌then◌else◌, inl, inr, is_in_round, is_modern, is_timeout}
use Rattle.is_theorems.proofs.Common.{IsAnsweredIn, IsFresh, IsLimited, IsPunctualIn, IsReachedInBy, IsTimedIn, length, List, Logged}
use Rattle.is_theorems.proofs.Common.{LoggedRound, LoggedRoundsSuffice, mul-le-mul_right, nat_lt, nat_tests, nominations_ahead, numbers}
use Rattle.is_theorems.proofs.Common.{one_if, pair_bound, PairRecord, PairsAreReachedInTime, Part, Path, path_of, refl, RoundsComeInTime}
use Rattle.is_theorems.proofs.Common.{RunsOn, selection_count, selects, signal_count, Step, Stream, subst, suc, sum_by-append, sum_by-cons}
use Rattle.is_theorems.proofs.Common.{sym, timeout_count, true, zero, ℕ}
use Rattle.is_theorems.proofs.CallEffects.ExternalViews.{Has-front, Has-rear}
use Rattle.is_theorems.proofs.DuePairs.ChecksAhead.{times, times-kept}
use Rattle.is_theorems.proofs.DuePairs.NominationsAhead.{Dues, calls-due, timeouts-due}
use Rattle.is_theorems.proofs.ExecutionLogs.LogSegments.{no-case, run-on}
use Rattle.is_theorems.proofs.ExecutionLogs.PerAgentExecutions.{either_has}
use Rattle.is_theorems.proofs.PollingRounds.CountedSelections.{ahead-fewer}
use Rattle.is_theorems.proofs.PollingRounds.InTurnAlong.{IsOfRound, profile-along}
use Rattle.is_theorems.proofs.PollingRounds.LimitedPairsAndPackets.{few-pairs, few-timeouts, none-ends, steady-as-original, suffice-steady}
use Rattle.is_theorems.proofs.PunctualTimeouts.ChecksInTimeInLogs.{come-in-time}
use Rattle.is_theorems.proofs.RemainingChecks.PairsThatPacketsAdd.{part-spends}
use Rattle.is_theorems.proofs.RemainingChecks.RemainingAfterRules.{Held, held_of}

module _ {P : Type 0} where
  -- ---- the oldest of the rounds

  record Oldest (many : ℕ) (rounds : List (LoggedRound P)) : Type 0 where
    over : List (LoggedRound P)
    oldest : List (LoggedRound P)
    split : rounds ≡ over ++ oldest
    count : length oldest ≡ many

  oldest-of : (extra many : ℕ) (rounds : List (LoggedRound P)) → length rounds ≡ extra + many → Oldest many rounds
  oldest-of zero many rounds long = record { over = []; oldest = rounds; split = refl; count = omega (arith, long) }
  oldest-of (suc extra) many [] long = absurd (let no : ⊥ = omega (arith, long) in no)
  oldest-of (suc extra) many (r ∷ older) long =
      let k = oldest-of extra many older (omega (arith, long)) in
      record { over = r ∷ k.over; oldest = k.oldest; split = ap (λ (l : List (LoggedRound P)). r ∷ l) k.split; count = k.count }

  entries-join : (xs ys : List (LoggedRound P)) → entries_of (xs ++ ys) ≡ entries_of xs ++ entries_of ys
  entries-join [] ys = refl
  entries-join (r ∷ xs) ys =
      ap (λ (l : List (Logged P)). r.following ++ r.timeout ∷ l) (entries-join xs ys) ∙ sym (append_assoc r.following (r.timeout ∷ entries_of xs) (entries_of ys))

  all-join : (r : LoggedRound P) (over oldest : List (LoggedRound P)) → all_entries r (over ++ oldest) ≡ entries_of over ++ all_entries r oldest
  all-join r over oldest =
      ap (λ (l : List (Logged P)). l ++ entries_of (r ∷ [])) (entries-join over oldest) ∙ append_assoc (entries_of over) (entries_of oldest) (entries_of (r ∷ []))

  punctual-oldest : (delay : ℕ) (r : LoggedRound P) (over oldest : List (LoggedRound P)) → IsPunctualIn delay r (over ++ oldest) → IsPunctualIn delay r oldest
  punctual-oldest delay r [] oldest k = k
  punctual-oldest delay r (x ∷ over) oldest k = punctual-oldest delay r over oldest k.1

  timed-oldest : {H : Type 0} (pace delay : ℕ) (start : AgentRecord H P) (r : LoggedRound P) (over oldest : List (LoggedRound P)) → IsTimedIn pace delay start r (over ++ oldest) → IsTimedIn pace delay start r oldest
  timed-oldest pace delay start r over oldest k = record {
    begins = (let begins = k.begins in omega (arith, begins));
    keeps = λ x by has is. k.keeps x by (subst (λ (l : List (Logged P)). Has l x) (sym (all-join r over oldest)) (Has-rear (entries_of over) (all_entries r oldest) x has)) is;
    punctual = punctual-oldest delay r over oldest k.punctual;
  }

  fewer-selections : (r : LoggedRound P) (over oldest : List (LoggedRound P)) → selection_count (all_entries r oldest) ≤ selection_count (all_entries r (over ++ oldest))
  fewer-selections r over oldest =
      let same : selection_count (all_entries r (over ++ oldest)) ≡ selection_count (entries_of over ++ all_entries r oldest) = ap (λ (l : List (Logged P)). selection_count l) (all-join r over oldest) in
      let sum = sum_by-append (λ (y : Logged P). cond (selects y.entry) 1 0) (entries_of over) (all_entries r oldest) in
      omega (arith, same, sum)

-- ---- nominations that may be sent at once

one-owed : (due_was due_now selected : Bool) → (due_was ≡ false → (due_now ≡ false) ⊎ (selected ≡ true)) → one_if due_now ≤ one_if due_was + cond selected 1 0
one-owed due_was false selected due = omega arith
one-owed true true selected due = omega arith
one-owed false true true due = omega arith
one-owed false true false due = elim (due refl) [ inl on ↦ no-case (sym on) | inr off ↦ no-case off ]

ahead-of : (was now due_was due_now selected : Bool) (n : ℕ) → (was ≡ false → now ≡ false) → (due_was ≡ false → (due_now ≡ false) ⊎ (selected ≡ true))
    → (if now then one_if due_now + n else 0) ≤ (if was then one_if due_was + (cond selected 1 0 + n) else 0)
ahead-of was false due_was due_now selected n plain due = omega arith
ahead-of false true due_was due_now selected n plain due = no-case (sym (plain refl))
ahead-of true true due_was due_now selected n plain due = let one = one-owed due_was due_now selected due in omega (arith, one)

module _ {H P : Type 0} (mac : H → List ℕ → List ℕ → List ℕ) (answers : P → CandidateRecord → ℕ → ℕ → Type 0) where
  dues : (x : Logged P) (old new : AgentRecord H P) (s t : Stream) → IsOfRound (is_modern old.timing) x → Step mac answers old s x.call x.entry new t → Dues (selects x.entry) old new
  dues x old new s t (inl between) step = calls-due mac answers x.call x.entry old new s t between step
  dues x old new s t (inr (now, comes)) step = timeouts-due mac answers now x.entry old new s t (subst (λ (c : Call P). Step mac answers old s c x.entry new t) comes step)

  ahead-along : (before : List (Logged P)) (start last : AgentRecord H P) (u t : Stream) (xs : List (Logged P)) → ((x : Logged P) → Has xs x → IsOfRound (is_modern start.timing) x)
      → RunsOn mac answers before start u xs last t → (n : ℕ) → nominations_ahead last n ≤ nominations_ahead start (selection_count xs + n)
  ahead-along before start last u t [] fits run n =
      let same : nominations_ahead last n ≡ nominations_ahead start n = ap (λ (a : AgentRecord H P). nominations_ahead a n) run.0 in
      let none : nominations_ahead start (0 + n) ≡ nominations_ahead start n = ap (λ k. nominations_ahead start k) (let z : 0 + n ≡ n = omega arith in z) in
      omega (arith, same, none)
  ahead-along before start last u t (x ∷ xs) fits (mid, v, run, number, given, step) n =
      let so_far = ahead-along before start mid u v xs (λ y has. fits y (inr has)) run (cond (selects x.entry) 1 0 + n) in
      let rules : is_modern mid.timing ≡ is_modern start.timing = profile-along mac answers (is_modern start.timing) before start mid u v xs (λ y has. fits y (inr has)) run in
      let d = dues x mid last v t (subst (λ b. IsOfRound b x) (sym rules) (fits x (inl refl))) step in
      let here : nominations_ahead last n ≤ nominations_ahead mid (cond (selects x.entry) 1 0 + n) = ahead-of (numbers mid) (numbers last) mid.nomination_due last.nomination_due (selects x.entry) n d.0 d.1 in
      let all = sum_by-cons (λ (y : Logged P). cond (selects y.entry) 1 0) x xs in
      let same : nominations_ahead start (selection_count xs + (cond (selects x.entry) 1 0 + n)) ≡ nominations_ahead start (selection_count (x ∷ xs) + n) = ap (λ k. nominations_ahead start k) (let z : selection_count xs + (cond (selects x.entry) 1 0 + n) ≡ selection_count (x ∷ xs) + n = omega (arith, all) in z) in
      omega (arith, so_far, here, same)

  -- ---- two parts of a segment, in which consent lasts

  abbrev Lasts : (before : List (Logged P)) (start : AgentRecord H P) (u : Stream) (part : List (Logged P)) (last : AgentRecord H P) (t : Stream) → Type 0
  Lasts before start u part last t = (run : RunsOn mac answers before start u part last t) × ConsentLastsIn mac answers before start u part last t run

  lasts-apart : (before : List (Logged P)) (start last : AgentRecord H P) (u t : Stream) (xs older : List (Logged P)) → Lasts before start u (xs ++ older) last t
      → (mid : AgentRecord H P) × (v : Stream) × Lasts before start u older mid v × Lasts (older ++ before) mid v xs last t
  lasts-apart before start last u t [] older k = (last, t, k, ((refl, refl), tt))
  lasts-apart before start last u t (x ∷ xs) older ((m, v, run, number, given, step), (here, consents)) =
      let k = lasts-apart before start m u v xs older (run, consents) in
      (k.0, k.1, k.2, ((m, v, k.3.0, number ∙ ap length (append_assoc xs older before), given, step), (here, k.3.1)))

  record Apart (first : AgentRecord H P) (s : Stream) (log before : List (Logged P)) (start last : AgentRecord H P) (xs older : List (Logged P)) : Type 0 where
    mid : AgentRecord H P
    front : Part mac answers first s log before start older mid
    front_lasts : ConsentLastsIn mac answers before start front.at older mid front.following front.run
    back : Part mac answers first s log (older ++ before) mid xs last
    back_lasts : ConsentLastsIn mac answers (older ++ before) mid back.at xs last back.following back.run

  apart : (first : AgentRecord H P) (s : Stream) (log before : List (Logged P)) (start last : AgentRecord H P) (xs older : List (Logged P)) → (found : Part mac answers first s log before start (xs ++ older) last)
      → ConsentLastsIn mac answers before start found.at (xs ++ older) last found.following found.run → Apart first s log before start last xs older
  apart first s log before start last xs older found consents =
      let k = lasts-apart before start last found.at found.following xs older (found.run, consents) in
      let split : log ≡ found.rest ++ (xs ++ (older ++ before)) = found.split ∙ ap (λ (l : List (Logged P)). found.rest ++ l) (append_assoc xs older before) in
      record {
        mid = k.0;
        front = record { rest = found.rest ++ xs; split = split ∙ sym (append_assoc found.rest xs (older ++ before)); at = found.at; led = found.led; following = k.1; run = k.2.0 };
        front_lasts = k.2.1;
        back = record { rest = found.rest; split = split; at = k.1; led = run-on mac answers first start k.0 s found.at k.1 before older found.led k.2.0; following = found.following; run = k.3.0 };
        back_lasts = k.3.1;
      }

  -- ---- the theorem

  module _ (reach : PairsAreReachedInTime {H = H} {P = P} mac answers) (first : AgentRecord H P) (s : Stream) (log : List (Logged P)) (fresh : IsFresh first)
      (most limit : ℕ) (limited : IsLimited mac answers most first s log) (few : FormsFew mac answers limit first s log)
      (k : SteadyRounds mac answers first s log) (p : PairRecord) (by pace delay many : ℕ) (f : SufficeSteadyInTime mac answers k p (bound_in mac answers most limit k) by pace delay many) where
    abbrev path : Path
    path = path_of k.start p

    abbrev bound : ℕ
    bound = bound_in mac answers most limit k

    abbrev Checked : Type 0
    Checked = ChecksInBy (k.opening.now + many * (pace + delay)) (k.opening ∷ k.later) (path_of k.start p) ⊎ IsAnsweredIn (all_entries k.opening k.later) (path_of k.start p)

    -- how many nominations may be sent at once in all rounds
    abbrev sent : ℕ
    sent = nominations_ahead k.start (selection_count (all_entries k.opening k.later))

    opening-between : (x : LoggedRound P) → Has (k.opening ∷ []) x → (y : Logged P) → Has x.following y → is_in_round (is_modern k.start.timing) y.call ≡ true
    opening-between x (inl is) = subst (λ (z : LoggedRound P). (y : Logged P) → Has z.following y → is_in_round (is_modern k.start.timing) y.call ≡ true) is f.between
    opening-between x (inr none) = absurd none

    opening-entries : (x : Logged P) → Has (entries_of (k.opening ∷ [])) x → IsOfRound (is_modern k.start.timing) x
    opening-entries x has = elim (either_has k.opening.following (k.opening.timeout ∷ []) x has) [
      | inl following ↦ inl (f.between x following)
      | inr (inl is) ↦ inr (k.opening.now, ap (λ (y : Logged P). y.call) (sym is) ∙ f.comes)
      | inr (inr none) ↦ absurd none
    ]

    module _ (o : Oldest many k.later) where
      joined : all_entries k.opening k.later ≡ entries_of o.over ++ all_entries k.opening o.oldest
      joined = ap (λ (l : List (LoggedRound P)). all_entries k.opening l) o.split ∙ all-join k.opening o.over o.oldest

      among : (x : Logged P) → Has (all_entries k.opening o.oldest) x → Has (all_entries k.opening k.later) x
      among x has = subst (λ (l : List (Logged P)). Has l x) (sym joined) (Has-rear (entries_of o.over) (all_entries k.opening o.oldest) x has)

      later-is : (x : LoggedRound P) → Has o.oldest x → Has k.later x
      later-is x has = subst (λ (l : List (LoggedRound P)). Has l x) (sym o.split) (Has-rear o.over o.oldest x has)

      steady : AreSteady false (all_entries k.opening o.oldest)
      steady = steady-as-original (is_modern k.start.timing) (all_entries k.opening o.oldest) (λ x has. search (k.steady x (among x has)))

      steady-first : AreSteady false (entries_of (k.opening ∷ []))
      steady-first x has = steady x (Has-rear (entries_of o.oldest) (entries_of (k.opening ∷ [])) x has)

      steady-later : AreSteady false (entries_of o.oldest)
      steady-later x has = steady x (Has-front (entries_of o.oldest) (entries_of (k.opening ∷ [])) x has)

      moved : (part : List (Logged P)) → all_entries k.opening k.later ≡ part → (found : Part mac answers first s log k.before k.start part k.last)
          × ConsentLastsIn mac answers k.before k.start found.at part k.last found.following found.run
      moved part is = subst (λ (l : List (Logged P)). (found : Part mac answers first s log k.before k.start l k.last) × ConsentLastsIn mac answers k.before k.start found.at l k.last found.following found.run) is
          (k.found, k.consents)

      cut : Apart first s log k.before k.start k.last (entries_of o.over) (all_entries k.opening o.oldest)
      cut = let m = moved (entries_of o.over ++ all_entries k.opening o.oldest) joined in apart first s log k.before k.start k.last (entries_of o.over) (all_entries k.opening o.oldest) m.0 m.1

      both : Apart first s log k.before k.start cut.mid (entries_of o.oldest) (entries_of (k.opening ∷ []))
      both = apart first s log k.before k.start cut.mid (entries_of o.oldest) (entries_of (k.opening ∷ [])) cut.front cut.front_lasts

      -- ---- the rounds suffice

      few-at : (part : List (Logged P)) (last : AgentRecord H P) → (found : Part mac answers first s log k.before k.start part last) → AreSteady false part → length last.pairs ≤ bound
      few-at part last found steadily =
          let le : length last.pairs ≤ pair_bound limit most (gathered_count k.before) (signal_count k.before) =
          few-pairs mac answers most limit first s log fresh limited few found.rest part k.before last found.following found.split steadily
          (run-on mac answers first k.start last s found.at found.following k.before part found.led found.run) in
          omega (arith, le)

      later-timeouts : timeout_count (entries_of o.oldest) ≤ many
      later-timeouts =
          let le = few-timeouts (is_modern k.start.timing) o.oldest (λ x has. (f.passing x (later-is x has)).between) in
          let count : length o.oldest ≡ many = o.count in
          omega (arith, le, count)

      all-timeouts : timeout_count (all_entries k.opening o.oldest) ≤ many + 1
      all-timeouts =
          let one : timeout_count (entries_of (k.opening ∷ [])) ≤ 1 = few-timeouts (is_modern k.start.timing) (k.opening ∷ []) opening-between in
          let sum = sum_by-append (λ (y : Logged P). cond (is_timeout y.call) 1 0) (entries_of o.oldest) (entries_of (k.opening ∷ [])) in
          let le = later-timeouts in
          omega (arith, one, sum, le)

      selections-fewer : selection_count (all_entries k.opening o.oldest) ≤ selection_count (all_entries k.opening k.later)
      selections-fewer =
          let same : selection_count (all_entries k.opening k.later) ≡ selection_count (all_entries k.opening (o.over ++ o.oldest)) = ap (λ (l : List (LoggedRound P)). selection_count (all_entries k.opening l)) o.split in
          let le = fewer-selections k.opening o.over o.oldest in
          omega (arith, same, le)

      sent-all : nominations_ahead k.start (selection_count (all_entries k.opening o.oldest)) ≤ sent
      sent-all = ahead-fewer k.start (selection_count (all_entries k.opening o.oldest)) (selection_count (all_entries k.opening k.later)) selections-fewer

      sent-later : nominations_ahead both.mid (selection_count (entries_of o.oldest)) ≤ sent
      sent-later =
          let le = ahead-along k.before k.start both.mid both.front.at both.front.following (entries_of (k.opening ∷ [])) opening-entries both.front.run (selection_count (entries_of o.oldest)) in
          let sum = sum_by-append (λ (y : Logged P). cond (selects y.entry) 1 0) (entries_of o.oldest) (entries_of (k.opening ∷ [])) in
          let same : nominations_ahead k.start (selection_count (entries_of (k.opening ∷ [])) + selection_count (entries_of o.oldest)) ≡ nominations_ahead k.start (selection_count (all_entries k.opening o.oldest)) =
          ap (λ n. nominations_ahead k.start n) (let z : selection_count (entries_of (k.opening ∷ [])) + selection_count (entries_of o.oldest) ≡ selection_count (all_entries k.opening o.oldest) = omega (arith, sum) in z) in
          let all = sent-all in
          omega (arith, le, same, all)

      held : held_of both.mid ≡ held_of k.start
      held = (part-spends mac answers k.start.timing.max_retransmits first s fresh k.before k.start both.front.at both.front.led f.line.checking.full refl
          (entries_of (k.opening ∷ [])) both.mid both.front.following steady-first both.front.run both.front_lasts).0

      suffices : AreEnoughLater by k.opening.now many bound (selection_count (all_entries k.opening k.later)) k.start → LoggedRoundsSuffice by k.start both.mid cut.mid k.opening o.oldest many
      suffices (inl (late, enough)) =
          let all = suffice-steady mac answers first s log fresh k.before (all_entries k.opening o.oldest) k.start cut.mid cut.front f.line.checking.full steady cut.front_lasts
          (length k.start.pairs) bound sent (many + 1) (omega arith) (few-at (all_entries k.opening o.oldest) cut.mid cut.front steady) all-timeouts (omega (arith, enough)) in
          let fewer = sent-all in
          let fit = times-kept (is_modern k.start.timing) (2 * length k.start.pairs + cut.mid.next_number + sent)
          (2 * length k.start.pairs + cut.mid.next_number + nominations_ahead k.start (selection_count (all_entries k.opening o.oldest))) (many + 1 + 1 + times (is_modern k.start.timing) k.start.next_number)
          (omega (arith, fewer)) (omega (arith, all)) in
          inl (omega (arith, late), omega (arith, fit))
      suffices (inr enough) =
          let begin : times (is_modern k.start.timing) (2 * bound + bound + sent) * k.start.timing.max_retransmits + times (is_modern k.start.timing) many ≤ (many + 1) * k.start.timing.max_retransmits = omega (arith, enough) in
          let second : times (is_modern both.mid.timing) (2 * bound + bound + sent) * both.mid.timing.max_retransmits + times (is_modern both.mid.timing) many ≤ (many + 1) * both.mid.timing.max_retransmits =
          subst (λ (h : Held). times (is_modern h.timing) (2 * bound + bound + sent) * h.timing.max_retransmits + times (is_modern h.timing) many ≤ (many + 1) * h.timing.max_retransmits) (sym held) begin in
          let all = suffice-steady mac answers first s log fresh (entries_of (k.opening ∷ []) ++ k.before) (entries_of o.oldest) both.mid cut.mid both.back
          (ap (λ (h : Held). h.lite) held ∙ f.line.checking.full) steady-later both.back_lasts
          bound bound sent many (few-at (entries_of (k.opening ∷ [])) both.mid both.front steady-first) (few-at (all_entries k.opening o.oldest) cut.mid cut.front steady) later-timeouts second in
          let fewer = sent-later in
          let fit = times-kept (is_modern both.mid.timing) (2 * length both.mid.pairs + cut.mid.next_number + sent)
          (2 * length both.mid.pairs + cut.mid.next_number + nominations_ahead both.mid (selection_count (entries_of o.oldest))) (many + 1 + times (is_modern both.mid.timing) both.mid.next_number)
          (omega (arith, fewer)) (omega (arith, all)) in
          inr (inr (omega (arith, fit)))

      timed : IsTimedIn pace delay k.start k.opening o.oldest
      timed = timed-oldest pace delay k.start k.opening o.over o.oldest (subst (λ (l : List (LoggedRound P)). IsTimedIn pace delay k.start k.opening l) o.split f.timed)

      -- ---- what is reached in them

      in-first : IsReachedInBy mac answers (k.opening.now + many * (pace + delay)) (k.opening ∷ []) both.front path → Checked
      in-first (inl (x, inl is, sends, soon)) = inl (x, inl is, sends, omega (arith, soon))
      in-first (inl (x, inr none, sends, soon)) = absurd none
      in-first (inr (inl (x, has, is))) = inr (x, among x (Has-rear (entries_of o.oldest) (entries_of (k.opening ∷ [])) x has), is)
      in-first (inr (inr ended)) =
          absurd (none-ends mac answers k.before k.start both.front.at (entries_of (k.opening ∷ [])) both.mid both.front.following both.front.run path steady-first ended)

      in-later : IsReachedInBy mac answers (k.opening.now + many * (pace + delay)) o.oldest both.back path → Checked
      in-later (inl (x, has, sends, soon)) = inl (x, inr (later-is x has), sends, omega (arith, soon))
      in-later (inr (inl (x, has, is))) = inr (x, among x (Has-front (entries_of o.oldest) (entries_of (k.opening ∷ [])) x has), is)
      in-later (inr (inr ended)) =
          absurd (none-ends mac answers (entries_of (k.opening ∷ []) ++ k.before) both.mid both.back.at (entries_of o.oldest) cut.mid both.back.following both.back.run path steady-later ended)

      from-oldest : Checked
      from-oldest =
          elim (reach first s log fresh k.before k.start both.mid cut.mid k.opening o.oldest p by pace delay many both.front both.back f.line (let due = f.due in omega (arith, due)) f.comes f.done (let early = f.early in omega (arith, early))
          (λ x has. search (f.between x has)) (λ x has. f.passing x (later-is x has)) (λ x has. search (f.lasting x (later-is x has))) (suffices (elim f.enough [
            | inl (late, enough) ↦ inl (omega (arith, late), omega (arith, enough))
            | inr enough ↦ inr (omega (arith, enough))
          ])) (let count : length o.oldest ≡ many = o.count in omega (arith, count)) timed) [
            | inl here ↦ in-first here
            | inr there ↦ in-later there
          ]

    -- ---- one of the rounds begins after this time

    module _ (come : RoundsComeInTime {H = H} {P = P} mac answers) where
      parts : Apart first s log k.before k.start k.last (entries_of k.later) (entries_of (k.opening ∷ []))
      parts = apart first s log k.before k.start k.last (entries_of k.later) (entries_of (k.opening ∷ [])) k.found k.consents

      steady-opening : AreSteady false (entries_of (k.opening ∷ []))
      steady-opening = steady-as-original (is_modern k.start.timing) (entries_of (k.opening ∷ [])) (λ x has. search (k.steady x (Has-rear (entries_of k.later) (entries_of (k.opening ∷ [])) x has)))

      steady-others : AreSteady false (entries_of k.later)
      steady-others = steady-as-original (is_modern k.start.timing) (entries_of k.later) (λ x has. search (k.steady x (Has-front (entries_of k.later) (entries_of (k.opening ∷ [])) x has)))

      fewer-times : length k.later < many → length k.later * (pace + delay) ≤ many * (pace + delay)
      fewer-times fewer = mul-le-mul_right (pace + delay) (omega (arith, fewer))

      from-few : length k.later < many → BeginsAfter (k.opening.now + many * (pace + delay)) k.later → Checked
      from-few fewer (x, has, late) =
          let le = fewer-times fewer in
          elim (come-in-time mac answers come first s log fresh k.before k.start parts.mid k.last k.opening k.later p by pace delay parts.front parts.back f.line (let due = f.due in omega (arith, due)) f.comes f.done
          (let early = f.early in omega (arith, early)) (λ y there. search (f.between y there)) f.passing (λ y there. search (f.lasting y there)) f.timed) [
            | inl all ↦ (let by_then = all x has in absurd (let no : ⊥ = omega (arith, by_then, late, le) in no))
            | inr (inl (inl (y, inl is, sends, soon))) ↦ inl (y, inl is, sends, omega (arith, soon, le))
            | inr (inl (inl (y, inr none, sends, soon))) ↦ absurd none
            | inr (inl (inr (inl (y, there, is)))) ↦ inr (y, Has-rear (entries_of k.later) (entries_of (k.opening ∷ [])) y there, is)
            | inr (inl (inr (inr ended))) ↦
                absurd (none-ends mac answers k.before k.start parts.front.at (entries_of (k.opening ∷ [])) parts.mid parts.front.following parts.front.run path steady-opening ended)
            | inr (inr (inl (y, there, sends, soon))) ↦ inl (y, inr there, sends, omega (arith, soon, le))
            | inr (inr (inr (inl (y, there, is)))) ↦ inr (y, Has-front (entries_of k.later) (entries_of (k.opening ∷ [])) y there, is)
            | inr (inr (inr (inr ended))) ↦
                absurd (none-ends mac answers (entries_of (k.opening ∷ []) ++ k.before) parts.mid parts.back.at (entries_of k.later) k.last parts.back.following parts.back.run path steady-others ended)
          ]

      from-many : many ≤ length k.later → Checked
      from-many enough = from-oldest (oldest-of (length k.later - many) many k.later (omega (arith, enough)))

      by-count : (b : Bool) → nat_lt (length k.later) many ≡ b → BeginsAfter (k.opening.now + many * (pace + delay)) k.later → Checked
      by-count true is after = from-few (grind (arith, nat_tests, is)) after
      by-count false is after = from-many (grind (arith, nat_tests, is))

      in-time : (many ≤ length k.later) ⊎ BeginsAfter (k.opening.now + many * (pace + delay)) k.later → Checked
      in-time (inl enough) = from-many (omega (arith, enough))
      in-time (inr (x, has, late)) = by-count (nat_lt (length k.later) many) refl (x, has, omega (arith, late))

  pub none-starved-in-time : PairsAreReachedInTime {H = H} {P = P} mac answers → RoundsComeInTime {H = H} {P = P} mac answers → NoneIsStarvedInTime {H = H} {P = P} mac answers
  none-starved-in-time reach come first s log fresh most limit limited few k p by pace delay many f =
      elim (in-time reach first s log fresh most limit limited few k p by pace delay many f come (elim f.long [
        | inl enough ↦ inl (omega (arith, enough))
        | inr (x, has, late) ↦ inr (x, has, omega (arith, late))
      ])) [
        | inl (x, has, sends, soon) ↦ inl (x, has, sends, omega (arith, soon))
        | inr answered ↦ inr answered
      ]

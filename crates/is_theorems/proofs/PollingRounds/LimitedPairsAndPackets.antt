-- With limits, a bound on the rounds before a pair that is due is checked, whatever pairs packets add in them.
use Rattle.is_theorems.proofs.Common.{[], ◌*◌, ◌++◌, ◌+◌, ◌<◌, ◌∙◌, ◌∷◌, ◌≡◌, ◌≤◌, add-mul, AddLocalCandidate, AddRemoteCandidate}
use Rattle.is_theorems.proofs.Common.{AgentRecord, ap, AreSteady, arith, Bool, Call, CandidateRecord, cond, ConsentLastsIn, count_by}
use Rattle.is_theorems.proofs.Common.{entries_of, Entry, false, FormsFew, gathered_count, HandleTimeout, Has, inl, inr, InvalidateCandidate}
use Rattle.is_theorems.proofs.Common.{is_gathered, is_in_round, is_modern, is_signal, is_steady, is_timeout, IsEndedIn, IsFresh, IsLimited}
use Rattle.is_theorems.proofs.Common.{IsSound, le_of_mul-le-mul_right, length, List, Logged, LoggedRound, MayEnd, mul-le-mul_right}
use Rattle.is_theorems.proofs.Common.{nominations_ahead, NoneIsStarved, pair_bound, PairRecord, PairsAreReached, Part, Path, path_of}
use Rattle.is_theorems.proofs.Common.{RecreateCandidatePairs, refl, RestartIce, Run, RunsOn, selection_count, SetRenomination, signal_count}
use Rattle.is_theorems.proofs.Common.{Stream, subst, sum_by-append, sum_by-cons, sym, timeout_count, true, ℕ}
use Rattle.is_theorems.proofs.DuePairs.ChecksAhead.{times, times-kept}
use Rattle.is_theorems.proofs.StorageBounds.BoundedLists.{at-most-one}
use Rattle.is_theorems.proofs.StorageBounds.NumberOfPairs.{pairs_within}
use Rattle.is_theorems.proofs.CallEffects.PathAndTradeEffects.{path_theorem}
use Rattle.is_theorems.proofs.ExecutionLogs.LogTheorems.{runs_sound}
use Rattle.is_theorems.proofs.ExecutionLogs.LogSegments.{no-case, run-on}
use Rattle.is_theorems.proofs.ExecutionLogs.PointsOfSegments.{deeper}
use Rattle.is_theorems.proofs.RemainingChecks.PairsThatPacketsAdd.{packets-add-few}
use Rattle.is_theorems.proofs.BasicLemmas.EqualAddresses.{both}

-- ---- numbers

enough-rounds : (was now next_was next rounds bound ahead m : ℕ) → now ≤ bound → 0 < m → next * m ≤ (next_was + now) * m + rounds
    → (2 * was + bound + ahead) * m + rounds ≤ (rounds + 1) * m → 2 * was + next + ahead ≤ rounds + 1 + next_was
enough-rounds was now next_was next rounds bound ahead m few some added enough =
    let all : now * m ≤ bound * m = mul-le-mul_right m (omega (arith, few)) in
    let most : (2 * was + bound + ahead) * m ≡ (2 * was + bound) * m + ahead * m = add-mul (2 * was + bound) ahead m in
    let most_sum : (2 * was + bound) * m ≡ 2 * was * m + bound * m = add-mul (2 * was) bound m in
    let left : (2 * was + next + ahead) * m ≡ (2 * was + next) * m + ahead * m = add-mul (2 * was + next) ahead m in
    let left_sum : (2 * was + next) * m ≡ 2 * was * m + next * m = add-mul (2 * was) next m in
    let added_sum : (next_was + now) * m ≡ next_was * m + now * m = add-mul next_was now m in
    let right : (rounds + 1 + next_was) * m ≡ (rounds + 1) * m + next_was * m = add-mul (rounds + 1) next_was m in
    le_of_mul-le-mul_right (joined (2 * was * m) (now * m) (next * m) (next_was * m) (bound * m) (ahead * m) ((rounds + 1) * m) _ _ _ _ _ _
    left left_sum right added_sum most most_sum all added enough) some where
      joined : (a b c d e g f left sum right added most both : ℕ) → left ≡ sum + g → sum ≡ a + c → right ≡ f + d → added ≡ d + b → most ≡ both + g → both ≡ a + e → b ≤ e
          → c ≤ added + rounds → most + rounds ≤ f → left ≤ right
      joined a b c d e g f left sum right added most both h1 h2 h3 h4 h5 h6 h7 h8 h9 = omega (arith, h1, h2, h3, h4, h5, h6, h7, h8, h9)

none-of : (b : Bool) → b ≡ false → cond b 1 0 ≤ 0
none-of true is = no-case (sym is)
none-of false is = omega arith

enough-rounds-in-turn : (ahead : Bool) (was now next_was next rounds bound sent m : ℕ) → now ≤ bound → 0 < m → next * m ≤ (next_was + now) * m + rounds
    → times ahead (2 * was + bound + sent) * m + times ahead rounds ≤ (rounds + 1) * m → times ahead (2 * was + next + sent) ≤ rounds + 1 + times ahead next_was
enough-rounds-in-turn false was now next_was next rounds bound sent m few some added enough = enough-rounds was now next_was next rounds bound sent m few some added enough
enough-rounds-in-turn true was now next_was next rounds bound sent m few some added enough =
    let all : now * m ≤ bound * m = mul-le-mul_right m (omega (arith, few)) in
    let left : (2 * (2 * was + next + sent)) * m ≡ (2 * was + next + sent) * m + (2 * was + next + sent) * m = doubled (2 * was + next + sent) in
    let left_sum : (2 * was + next + sent) * m ≡ (2 * was + next) * m + sent * m = add-mul (2 * was + next) sent m in
    let one_sum : (2 * was + next) * m ≡ 2 * was * m + next * m = add-mul (2 * was) next m in
    let added_sum : (next_was + now) * m ≡ next_was * m + now * m = add-mul next_was now m in
    let right : (rounds + 1 + 2 * next_was) * m ≡ (rounds + 1) * m + (2 * next_was) * m = add-mul (rounds + 1) (2 * next_was) m in
    let right_sum : (2 * next_was) * m ≡ next_was * m + next_was * m = doubled next_was in
    let bounds : (2 * (2 * was + bound + sent)) * m ≡ (2 * was + bound + sent) * m + (2 * was + bound + sent) * m = doubled (2 * was + bound + sent) in
    let bounds_sum : (2 * was + bound + sent) * m ≡ (2 * was + bound) * m + sent * m = add-mul (2 * was + bound) sent m in
    let most_sum : (2 * was + bound) * m ≡ 2 * was * m + bound * m = add-mul (2 * was) bound m in
    le_of_mul-le-mul_right (joined (2 * was * m) (now * m) (next * m) (next_was * m) (bound * m) (sent * m) ((rounds + 1) * m) _ _ _ _ _ _ _ _ _
    left left_sum one_sum right right_sum added_sum bounds bounds_sum most_sum all added enough) some where
      doubled : (x : ℕ) → (2 * x) * m ≡ x * m + x * m
      doubled x = let same : 2 * x ≡ x + x = omega arith in ap (λ y. y * m) same ∙ add-mul x x m

      joined : (a b c d e g f left sum one right twice added bounds most both : ℕ) → left ≡ sum + sum → sum ≡ one + g → one ≡ a + c → right ≡ f + twice → twice ≡ d + d → added ≡ d + b
          → bounds ≡ most + most → most ≡ both + g → both ≡ a + e → b ≤ e → c ≤ added + rounds → bounds + 2 * rounds ≤ f → left ≤ right
      joined a b c d e g f left sum one right twice added bounds most both h1 h2 h3 h4 h5 h6 h7 h8 h9 h10 h11 h12 = omega (arith, h1, h2, h3, h4, h5, h6, h7, h8, h9, h10, h11, h12)

-- ---- calls of a segment in which no candidate is added

module _ {P : Type 0} where
  between-counts : (m : Bool) (call : Call P) → is_in_round m call ≡ true → is_timeout call ≡ false
  between-counts m (HandleTimeout now) is = no-case is
  between-counts m _ is = refl

  -- with the profile `Original` more calls may come
  pub steady-as-original : (m : Bool) (xs : List (Logged P)) → AreSteady m xs → AreSteady false xs
  steady-as-original m xs are x has = by x.call (are x has) where
    by : (call : Call P) → is_steady m call ≡ true → is_steady false call ≡ true
    by (SetRenomination on) is = refl
    by _ is = is

  steady-signals : (call : Call P) → is_steady false call ≡ true → is_signal call ≡ false
  steady-signals (AddRemoteCandidate c) is = no-case is
  steady-signals _ is = refl

  steady-gathered : (call : Call P) → is_steady false call ≡ true → is_gathered call ≡ false
  steady-gathered (AddLocalCandidate c) is = no-case is
  steady-gathered _ is = refl

  no-timeouts : (m : Bool) (xs : List (Logged P)) → ((x : Logged P) → Has xs x → is_in_round m x.call ≡ true) → timeout_count xs ≡ 0
  no-timeouts m [] are = refl
  no-timeouts m (x ∷ xs) are =
      let rest = no-timeouts m xs (λ y has. are y (inr has)) in
      let all = sum_by-cons (λ (y : Logged P). cond (is_timeout y.call) 1 0) x xs in
      let none : cond (is_timeout x.call) 1 0 ≤ 0 = none-of (is_timeout x.call) (between-counts m x.call (are x (inl refl))) in
      omega (arith, rest, all, none)

  module _ (test : Call P → Bool) (none_passes : (call : Call P) → is_steady false call ≡ true → test call ≡ false) where
    none-counted : (xs : List (Logged P)) → AreSteady false xs → count_by (λ (y : Logged P). test y.call) xs ≡ 0
    none-counted [] are = refl
    none-counted (x ∷ xs) are =
        let rest = none-counted xs (λ y has. are y (inr has)) in
        let all = sum_by-cons (λ (y : Logged P). cond (test y.call) 1 0) x xs in
        let none : cond (test x.call) 1 0 ≤ 0 = none-of (test x.call) (none_passes x.call (are x (inl refl))) in
        omega (arith, rest, all, none)

    counted-before : (xs before : List (Logged P)) → AreSteady false xs → count_by (λ (y : Logged P). test y.call) (xs ++ before) ≡ count_by (λ (y : Logged P). test y.call) before
    counted-before xs before are =
        let sum = sum_by-append (λ (y : Logged P). cond (test y.call) 1 0) xs before in
        let none = none-counted xs are in
        omega (arith, sum, none)

  pub few-timeouts : (m : Bool) (rounds : List (LoggedRound P)) → ((r : LoggedRound P) → Has rounds r → (x : Logged P) → Has r.following x → is_in_round m x.call ≡ true)
      → timeout_count (entries_of rounds) ≤ length rounds
  few-timeouts m [] are = omega arith
  few-timeouts m (r ∷ older) are =
      let rest = few-timeouts m older (λ x has. are x (inr has)) in
      let split = sum_by-append (λ (y : Logged P). cond (is_timeout y.call) 1 0) r.following (r.timeout ∷ entries_of older) in
      let here = sum_by-cons (λ (y : Logged P). cond (is_timeout y.call) 1 0) r.timeout (entries_of older) in
      let none = no-timeouts m r.following (are r (inl refl)) in
      let one = at-most-one (is_timeout r.timeout.call) in
      omega (arith, rest, split, here, none, one)

module _ {H P : Type 0} (mac : H → List ℕ → List ℕ → List ℕ) (answers : P → CandidateRecord → ℕ → ℕ → Type 0) where
  -- nothing in it removes a pair but a timeout
  may-not : (a : AgentRecord H P) (call : Call P) (e : Entry) (p : PairRecord) → is_in_round true call ≡ true → is_steady false call ≡ true → MayEnd answers a call e p → ⊥
  may-not a (AddLocalCandidate c) e p between steady ends = no-case steady
  may-not a (AddRemoteCandidate c) e p between steady ends = no-case steady
  may-not a (InvalidateCandidate c) e p between steady ends = no-case between
  may-not a (RestartIce creds keep) e p between steady ends = no-case between
  may-not a RecreateCandidatePairs e p between steady ends = no-case between
  may-not a (HandleTimeout now) e p between steady ends = no-case between
  may-not a _ e p between steady ends = absurd ends

  pub none-ends : (before : List (Logged P)) (start : AgentRecord H P) (u : Stream) (part : List (Logged P)) (last : AgentRecord H P) (t : Stream) (run : RunsOn mac answers before start u part last t) (path : Path)
      → AreSteady false part → IsEndedIn mac answers before start u part last t run path → ⊥
  none-ends before start u [] last t run path steady ended = absurd ended
  none-ends before start u (x ∷ part) last t run path steady (inl (between, (p, has, joins, ends))) = may-not run.0 x.call x.entry p between (steady x (inl refl)) ends
  none-ends before start u (x ∷ part) last t run path steady (inr ended) = none-ends before start u part run.0 run.1 run.2 path (λ y has. steady y (inr has)) ended

  -- as many pairs as the caller allows, after a segment in which no candidate is added
  pub few-pairs : (most limit : ℕ) (first : AgentRecord H P) (s : Stream) (log : List (Logged P)) → IsFresh first → IsLimited mac answers most first s log → FormsFew mac answers limit first s log
      → (rest part before : List (Logged P)) (last : AgentRecord H P) (t : Stream) → log ≡ rest ++ (part ++ before) → AreSteady false part → Run mac answers first s (part ++ before) last t
      → length last.pairs ≤ pair_bound limit most (gathered_count before) (signal_count before)
  few-pairs most limit first s log fresh limited few rest part before last t split steady led =
      subst (λ k. length last.pairs ≤ pair_bound limit most k (signal_count before)) (counted-before is_gathered steady-gathered part before steady)
      (subst (λ k. length last.pairs ≤ pair_bound limit most (gathered_count (part ++ before)) k) (counted-before is_signal steady-signals part before steady)
      (pairs_within mac answers most limit first s (part ++ before) last t fresh
      (λ b m a y k. limited b m a y (deeper mac answers first s log (part ++ before) rest b m y a split k))
      (λ b m a y k. few b m a y (deeper mac answers first s log (part ++ before) rest b m y a split k)) led))

  -- rounds that suffice whatever pairs packets add in them suffice with those that they do
  pub suffice-steady : (first : AgentRecord H P) (s : Stream) (log : List (Logged P)) → IsFresh first → (before part : List (Logged P)) (start last : AgentRecord H P)
      → (found : Part mac answers first s log before start part last) → start.lite ≡ false → AreSteady false part → ConsentLastsIn mac answers before start found.at part last found.following found.run
      → (pairs bound sent rounds : ℕ) → length start.pairs ≤ pairs → length last.pairs ≤ bound → timeout_count part ≤ rounds
      → times (is_modern start.timing) (2 * pairs + bound + sent) * start.timing.max_retransmits + times (is_modern start.timing) rounds ≤ (rounds + 1) * start.timing.max_retransmits
      → times (is_modern start.timing) (2 * length start.pairs + last.next_number + sent) ≤ rounds + 1 + times (is_modern start.timing) start.next_number
  suffice-steady first s log fresh before part start last found full steady consents pairs bound sent rounds few few_last timeouts enough =
      let added = packets-add-few mac answers first s log fresh before part start last found full steady consents in
      let sound : IsSound start = runs_sound mac answers (path_theorem mac answers) first start s found.at before fresh found.led in
      let fit : times (is_modern start.timing) (2 * pairs + last.next_number + sent) ≤ rounds + 1 + times (is_modern start.timing) start.next_number =
      enough-rounds-in-turn (is_modern start.timing) pairs (length last.pairs) start.next_number last.next_number rounds
      bound sent start.timing.max_retransmits (omega (arith, few_last)) sound.checks (omega (arith, added, timeouts)) (omega (arith, enough)) in
      let fewer = times-kept (is_modern start.timing) (2 * pairs + last.next_number + sent) (2 * length start.pairs + last.next_number + sent)
      (rounds + 1 + times (is_modern start.timing) start.next_number) (omega (arith, few)) fit in
      omega (arith, fewer)

  -- ---- the theorem

  pub none-starved : PairsAreReached {H = H} mac answers → NoneIsStarved {H = H} mac answers
  none-starved reached first s log fresh most limit limited few before start last rounds p by part consents f =
      elim (reached first s log fresh before start last rounds p by part (record { at = f.at; began = f.began; line = f.line; passing = f.passing; lasting = f.lasting; enough = enough })) [
        | inl checks ↦ inl checks
        | inr (inl answered) ↦ inr answered
        | inr (inr ended) ↦ absurd (none-ends before start part.at (entries_of rounds) last part.following part.run (path_of start p) steady ended)
      ] where
        steady : AreSteady false (entries_of rounds)
        steady = steady-as-original (is_modern start.timing) (entries_of rounds) f.steady

        now : length last.pairs ≤ pair_bound limit most (gathered_count before) (signal_count before)
        now = few-pairs most limit first s log fresh limited few part.rest (entries_of rounds) before last part.following part.split steady
            (run-on mac answers first start last s part.at part.following before (entries_of rounds) part.led part.run)

        enough : times (is_modern start.timing) (2 * length start.pairs + last.next_number + nominations_ahead start (selection_count (entries_of rounds))) ≤ length rounds + 1 + times (is_modern start.timing) start.next_number
        enough =
            let all = f.enough in
            suffice-steady first s log fresh before (entries_of rounds) start last part f.line.checking.full steady consents
            (length start.pairs) (pair_bound limit most (gathered_count before) (signal_count before)) (nominations_ahead start (selection_count (entries_of rounds))) (length rounds) (omega arith) now
            (few-timeouts (is_modern start.timing) rounds (λ r has. (f.passing r has).between)) (omega (arith, all))

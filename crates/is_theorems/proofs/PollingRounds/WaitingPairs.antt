-- A pair that waits for its check when rounds begin.
use Rattle.is_theorems.proofs.Common.{◌+◌, ◌<◌, ◌≡◌, ◌≤◌, AgentRecord, arith, Bool, false, is_modern, List, LoggedRound, MAX, nat_lt}
use Rattle.is_theorems.proofs.Common.{nat_tests, PairRecord, path_of, refl, true, unanswered_count, WaitsInRounds, ℕ}
use Rattle.is_theorems.proofs.DuePairs.AfterNominationAndRemoval.{answered_at}
use Rattle.is_theorems.proofs.DuePairs.ChecksAhead.{calls_left, times}
use Rattle.is_theorems.proofs.EarlierChecks.ChecksOfOtherPairs.{all-but, leads}
use Rattle.is_theorems.proofs.PollingRounds.DuePairsInLogs.{Persists}

lt-is : (n m : ℕ) → n < m → nat_lt n m ≡ true
lt-is n m h = grind (arith, nat_tests, h)

module _ {H P : Type 0} where
  module _ (by : ℕ) (start : AgentRecord H P) (p : PairRecord) where
    abbrev pub total_at : ℕ
    total_at = calls_left (is_modern start.timing) start.ahead_turn (leads (all-but p.number) by start.pairs) + times (is_modern start.timing) 0

    pub begins : (rounds : List (LoggedRound P)) (w : WaitsInRounds by start rounds p) (late : by < w.at) (early : w.at < MAX)
        → Persists by p.number (path_of start p) (answered_at start p) (is_modern start.timing) (λ _. 0) total_at start.next_number w.at 0 0 start
    begins rounds w late early = record {
      checking = w.line.checking;
      queue = w.line.queue;
      pair = p;
      there = w.line.there;
      number = refl;
      on = refl;
      young = lt-is (unanswered_count p.checks) start.timing.max_retransmits (let young = w.line.young in omega (arith, young));
      lasts = λ m is. is;
      late = late;
      early = early;
      ready = (let due = w.line.due in omega (arith, due), w.line.settled);
      rules = refl;
      count = at-first (is_modern start.timing) (calls_left (is_modern start.timing) start.ahead_turn (leads (all-but p.number) by start.pairs)) start.next_number;
    } where
      at-first : (ahead : Bool) (x i : ℕ) → x + 0 + times ahead (i + 0) ≤ x + times ahead 0 + times ahead (i + 0)
      at-first true x i = omega arith
      at-first false x i = omega arith

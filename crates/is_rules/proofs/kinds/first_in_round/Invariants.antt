use Rattle.is_rules.proofs.Common.{◌≡◌, drop, IfSome, List, multiset_of, option_copied, PairRecord}
use Rattle.is_pair.specs.Due.{due_time_of}
use Rattle.is_rules.specs.Kinds.{turn_of_pair}
use Rattle.is_rules.proofs.FunctionProofs.NextAhead.{IsVisited}
use Rattle.is_rules.proofs.kinds.first_in_round.Given as goal

-- the first among the pairs visited so far, and its turn
abbrev pub invariant-loop-pair : goal.invariant-loop-pair
invariant-loop-pair l = record {
  visited : (done : List PairRecord)
      × IsVisited l.round.kinds.now.local.now l.round.kinds.now.remote.now l.round.precedence l.round.next l.round.time.0 l.round.timing.now (multiset_of l.pairs) done
      (drop l.pair-index l.pair-items) (option_copied l.first.pair);
  turn : IfSome (option_copied l.first.pair) (λ p. l.first.turn ≡ turn_of_pair l.round.kinds.now.local.now l.round.kinds.now.remote.now l.round.precedence l.round.next l.round.time.0 l.round.timing.now p);
  due : IfSome (option_copied l.first.pair) (λ p. l.first.due.0 ≡ due_time_of l.round.time.0 l.round.timing.now p);
}

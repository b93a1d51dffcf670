use Rattle.is_pair.proofs.Common.{◌<◌, arith, due_time_of, eq-eqb, is_numbered, IsEarliest, List, multiset_of, nat_tests, PairRecord, refl}
use Rattle.is_pair.proofs.Common.{Some, subst}
use Rattle.is_pair.proofs.DueTimes.FirstDuePair.{none-due}
use Rattle.is_pair.proofs.PriorityOrder.GreatestPair.{has-any}
use Rattle.is_pair.proofs.checklist.Checklist.next_due.Goals as goal

pub returns-else-le-clause-next : goal.returns-else-le-clause-next
returns-else-le-clause-next c =
    let first = c.in_ok-first.first.now in
    let late : c.args.now.0 < due_time_of c.args.now.0 c.args.timing.now first = grind (arith, nat_tests, c.if-le.false, c.le.ensures, c.due_time_of.ensures) in
    let earliest = subst (λ (ps : List PairRecord). IsEarliest c.args.now.0 c.args.timing.now ps (Some first)) c.deref.ensures.value c.in_ok-first.ensures in
    none-due c.args.now.0 c.args.timing.now (multiset_of c.args.self.now) first earliest late

pub returns-then-le-clause-has : goal.returns-then-le-clause-has
returns-then-le-clause-has c =
    let first = c.in_ok-first.first.now in
    let earliest = subst (λ (ps : List PairRecord). IsEarliest c.args.now.0 c.args.timing.now ps (Some first)) c.deref.ensures.value c.in_ok-first.ensures in
    has-any (is_numbered first.number) (multiset_of c.args.self.now) first earliest.0 (eq-eqb first.number first.number refl)

use Rattle.is_rules.proofs.Common.{[], ◌++◌, ◌<◌, ◌∙◌, ◌∷◌, ◌≡◌, ap, arith, combined_priority, is_numbered, length, multiset_of, nat_lt}
use Rattle.is_rules.proofs.Common.{nat_tests, pair_of, PairRecord, refl, rules, sides_view, Some, subst, sym, taking_over, true, without, ℕ}
use Rattle.is_rules.proofs.PairLists.PairsInLists.{placed-push, placed-without, taken-places}
use Rattle.is_rules.proofs.forming.try_one.Goals as goal

is-less : (n m : ℕ) → n < m → nat_lt n m ≡ true
is-less n m h = grind (arith, nat_tests, h)

pub add-requires-in-Some-clause-room : goal.add-requires-in-Some-clause-room
add-requires-in-Some-clause-room c = c.remove.ensures.room 1 c.requires.room

pub returns-else-prio-clause-placed : goal.returns-else-prio-clause-placed
returns-else-prio-clause-placed c =
    let s = c.args.sides in let local = s.local.now in let remote = s.remote.now in let multiset = multiset_of c.args.pairs.now in
    let found = c.in-Some.found.now in
    let own : PairRecord = pair_of (sides_view s) c.args.at c.args.next_number.now in
    let is : c.take_over.new.pair ≡ taking_over s.lite found own = search rules in
    let places = taken-places s.lite found own in
    let l : c.take_over.new.pair.local < length local = subst (λ k. k < length local) (sym (ap (λ (p : PairRecord). p.local) is ∙ places.0)) c.requires.local in
    let r : c.take_over.new.pair.remote < length remote = subst (λ k. k < length remote) (sym (ap (λ (p : PairRecord). p.remote) is ∙ places.1)) c.requires.remote in
    rw (c.add-in-Some.ensures.added, c.remove.ensures.left)
    (placed-push local remote (without (is_numbered c.id-number.result.0) multiset) c.take_over.new.pair (placed-without local remote (is_numbered c.id-number.result.0) multiset c.requires.placed) l r)

pub returns-else-prio-clause-tries : goal.returns-else-prio-clause-tries
returns-else-prio-clause-tries c =
    let s = c.args.sides in let multiset = multiset_of c.args.pairs.now in let found = c.in-Some.found.now in
    let own : PairRecord = pair_of (sides_view s) c.args.at c.args.next_number.now in
    let less : nat_lt found.priority (combined_priority (sides_view s) c.args.at) ≡ true =
    is-less _ _ (subst (λ n. n < own.priority) c.prio.ensures (subst (λ n. c.prio.result < n) (c.prio-in-Some.ensures ∙ ap (λ (p : PairRecord). p.priority) c.pair_of-pair.ensures) c.if-prio.false)) in
    let pairs : multiset_of c.add-in-Some.new.pairs ≡ without (is_numbered found.number) multiset ++ taking_over s.lite found own ∷ [] = search rules in
    let next = c.add-in-Some.ensures.next in
    (Some found, search rules, rw (less, pairs, next) refl)

pub returns-else-prio-clause-room : goal.returns-else-prio-clause-room
returns-else-prio-clause-room c = λ n room. c.add-in-Some.ensures.room n (c.remove.ensures.room _ room)

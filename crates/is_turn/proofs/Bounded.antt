-- What a client keeps is bounded by its places.
use Rattle.is_turn.specs.Bounds.{one_if, total, requests_of, ids_in, ids_by, ids_of, one_by, waits_by, packets_of, events_of}
use Rattle.is_turn.proofs.Common.{[], ◌*◌, ◌+◌, ◌∷◌, ◌≤◌, arith, Attempts, Bool, false, Lease, length, List, None, Operation, Option}
use Rattle.is_turn.proofs.Common.{Session, Some, true, ℕ}

total_one : (count : Lease → ℕ) (l : List Lease) → ((g : Lease) → count g ≤ 1) → total count l ≤ length l
total_one count [] h = omega arith
total_one count (g ∷ l) h = omega (arith, h g, total_one count l h)

total_six : (count : Lease → ℕ) (l : List Lease) → ((g : Lease) → count g ≤ 6) → total count l ≤ 6 * length l
total_six count [] h = omega arith
total_six count (g ∷ l) h = omega (arith, h g, total_six count l h)

one : {A : Type 0} (o : Option A) → one_if o ≤ 1
one None = omega arith
one (Some x) = omega arith

six : (a : Attempts) → ids_in a ≤ 6
six a = omega (arith, one a.last, one a.second, one a.third, one a.fourth, one a.fifth, one a.sixth)

ids : (o : Option Operation) → ids_by o ≤ 6
ids None = omega arith
ids (Some o) = six o.attempts

one_bool : (b : Bool) → one_by b ≤ 1
one_bool true = omega arith
one_bool false = omega arith

waits : (o : Option Operation) → waits_by o ≤ 1
waits None = omega arith
waits (Some o) = one_bool o.is_waiting

pub requests_bounded : (s : Session) (l : List Lease) → requests_of s l ≤ 1 + length l
requests_bounded s l = omega (arith, one s.operation, total_one (λ g. one_if g.operation) l (λ g. one g.operation))

pub ids_bounded : (s : Session) (l : List Lease) → ids_of s l ≤ 6 + 6 * length l
ids_bounded s l = omega (arith, ids s.operation, total_six (λ g. ids_by g.operation) l (λ g. ids g.operation))

pub packets_bounded : (s : Session) (l : List Lease) → packets_of s l ≤ 2 + length l
packets_bounded s l = omega (arith, one s.alive, waits s.operation, total_one (λ g. waits_by g.operation) l (λ g. waits g.operation))

pub events_bounded : (s : Session) (l : List Lease) → events_of s l ≤ 2 + length l
events_bounded s l = omega (arith, one s.made, one s.ending, total_one (λ g. one_if g.report) l (λ g. one g.report))

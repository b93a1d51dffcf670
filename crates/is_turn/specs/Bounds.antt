-- How much a client keeps: its leases have a fixed number of places, and all else is so much for the allocation and for each place.
use Rattle.std.specs.Prelude.{ℕ, ◌+◌, Bool, true, false, List, [], ◌∷◌, Option, Some, None}
use Rattle.is_turn.specs.declared.attempts.Attempts.{Attempts}
use Rattle.is_turn.specs.declared.lease.Lease.{Lease}
use Rattle.is_turn.specs.declared.operation.Operation.{Operation}
use Rattle.is_turn.specs.declared.session.Session.{Session}

abbrev pub one_if : {A : Type 0} → Option A → ℕ
one_if None = 0
one_if (Some x) = 1

abbrev pub total : (Lease → ℕ) → List Lease → ℕ
total count [] = 0
total count (g ∷ l) = count g + total count l

-- requests that wait for their responses
abbrev pub requests_of : Session → List Lease → ℕ
requests_of s l = one_if s.operation + total (λ g. one_if g.operation) l

abbrev pub ids_in : Attempts → ℕ
ids_in a = one_if a.last + one_if a.second + one_if a.third + one_if a.fourth + one_if a.fifth + one_if a.sixth

abbrev pub ids_by : Option Operation → ℕ
ids_by None = 0
ids_by (Some o) = ids_in o.attempts

-- transaction IDs to which a response counts
abbrev pub ids_of : Session → List Lease → ℕ
ids_of s l = ids_by s.operation + total (λ g. ids_by g.operation) l

abbrev pub one_by : Bool → ℕ
one_by true = 1
one_by false = 0

abbrev pub waits_by : Option Operation → ℕ
waits_by None = 0
waits_by (Some o) = one_by o.is_waiting

-- packets that wait for polling
abbrev pub packets_of : Session → List Lease → ℕ
packets_of s l = one_if s.alive + waits_by s.operation + total (λ g. waits_by g.operation) l

-- events that wait for polling
abbrev pub events_of : Session → List Lease → ℕ
events_of s l = one_if s.made + one_if s.ending + total (λ g. one_if g.report) l

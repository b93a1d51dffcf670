-- The number of a channel belongs to one peer.
use Rattle.std.specs.Prelude.{◌≡◌, ℕ, true, List, is_some}
use Rattle.is_turn.specs.declared.lease.Lease.{Lease}
use Rattle.is_turn.specs.Places.{at_place}

abbrev pub SameChannel : Lease → Lease → Type 0
SameChannel g new = (new.number ≡ g.number) × (new.peer ≡ g.peer)

-- each channel stays in its place, with its number and its peer
abbrev pub KeepsChannels : List Lease → List Lease → Type 0
KeepsChannels l new = (place : ℕ) → is_some (at_place place l).number ≡ true → SameChannel (at_place place l) (at_place place new)

-- How two agents come to have different roles: by one check that the network delivers, and its 487 if it gets one (RFC 8445,
-- section 7.3.1.1).
use Rattle.std.specs.Prelude.{◌≡◌, ◌≢◌, ℕ, List, ◌++◌}
use Rattle.is_proto.specs.Lists.{Has}
use Rattle.is_proto.specs.Packets.{Packet}
use Rattle.is_candidate.specs.Candidates.{CandidateRecord}
use Rattle.is_stun.specs.declared.header.Class.TheVariants.{Failure}
use Rattle.is_rules.specs.declared.emitted.Path.{Path}
use Rattle.is_theorems.specs.Delivery.{Sends}
use Rattle.is.specs.declared.world_events.Side.{Side}
use Rattle.is.specs.declared.world_events.Side.TheVariants.{A, B}
use Rattle.is.specs.AcceptedNominationsIn.{Occurrence, HandedCheck, IsReturnedInTime, occurrences_in}
use Rattle.is.specs.World.{WorldRecord, LoggedEvent, WorldRun, at, other, Streams}
use Rattle.is.specs.WorldRoles.{IsFairWorld, role_in}

-- After the entry one agent is controlling and the other is controlled.
abbrev pub AreOpposite : {P : Type 0} → LoggedEvent P → Type 0
AreOpposite x = role_in A x ≢ role_in B x

module _ {H P : Type 0} where
  -- The roles are different before and after the entry.
  abbrev pub StayOpposite : Occurrence H P → Type 0
  StayOpposite x = (x.before.a.controlling ≢ x.before.b.controlling) × AreOpposite x.entry

  -- The side sends a check on the path, which is delivered to the other side at any time (`HandedCheck`). If the check gets a 487,
  -- that is delivered back while the check is pending.
  abbrev pub IsMeeting : (H → List ℕ → List ℕ → List ℕ) → (P → CandidateRecord → ℕ → ℕ → Type 0) → Side → Path → List (Occurrence H P) → Type 0
  IsMeeting mac answers side path all =
      (over : Path) × (k : HandedCheck mac side path over all)
      × ((error : Packet) → Sends (at (other side) k.comes.handed.before) k.comes.handed.entry.outcome.entry Failure k.id error (at (other side) k.comes.handed.following)
      → IsReturnedInTime mac answers side path over all k error)

  -- Two agents are newly created, with different tie-breakers, in any roles. In a segment of the log a check of either agent is
  -- delivered to the other one, and its 487 if it gets one, at any time, also through NATs. Then their roles are different after
  -- the segment.
  abbrev pub RolesMeet : (mac : H → List ℕ → List ℕ → List ℕ) (answers : P → CandidateRecord → ℕ → ℕ → Type 0) → WorldRecord H P → Streams → List (LoggedEvent P) → Type 0
  RolesMeet mac answers first s log =
      (greater side : Side) (last : WorldRecord H P) (t : Streams) (run : WorldRun mac answers first s 0 log last t) (part rest : List (Occurrence H P)) (path : Path)
      → IsFairWorld first greater log → occurrences_in mac answers first s 0 log last t run ≡ part ++ rest → IsMeeting mac answers side path part
      → (last.a.controlling ≢ last.b.controlling) × ((x : Occurrence H P) → Has rest x → StayOpposite x)

-- What makes the controlled one of two agents select a path: the other one nominates it, and its own check on it is answered (RFC
-- 8445, sections 7.2.5.3.2 and 7.3.1.5).
use Rattle.std.specs.Prelude.{◌≡◌, ℕ, suc, ◌+◌, ◌<◌, ◌≤◌, ◌&&◌, Bool, true, false, List, [], ◌∷◌, ◌++◌, Option, Some, None, if◌then◌else◌}
use Rattle.is_proto.specs.Lists.{Has}
use Rattle.is_proto.specs.Packets.{Packet}
use Rattle.is_candidate.specs.Candidates.{CandidateRecord}
use Rattle.is_stun.specs.declared.header.Class.TheVariants.{Request, Success}
use Rattle.is_rules.specs.declared.emitted.Path.{Path}
use Rattle.is_rules.specs.Answers.{is_reverse}
use Rattle.is_theorems.specs.AskedExecutions.{Ends}
use Rattle.is_theorems.specs.Asking.{AreNominatedOn}
use Rattle.is_theorems.specs.Delivery.{KnowEachOther, IsReachedBy, Sends}
use Rattle.is_rules.specs.Issuing.{via_out}
use Rattle.is_rules.specs.Queue.{request_at}
use Rattle.is_theorems.specs.Pending.{is_check_on}
use Rattle.is_rules.specs.Steps as agent
use Rattle.is_rules.specs.Emitted.{reversed}
use Rattle.is.specs.declared.world_events.Side.{Side}
use Rattle.is.specs.declared.world_events.Side.TheVariants.{A, B}
use Rattle.is.specs.Deliveries.{Hands}
use Rattle.is.specs.World.{WorldRecord, Call, Outcome, LoggedEvent, WorldRun, at, other, Streams}

-- a log entry, with the states of the network model before and after it
pub record Occurrence (H P : Type 0) : Type 0 where
  pub before : WorldRecord H P
  pub entry : LoggedEvent P
  pub following : WorldRecord H P

abbrev pub is_of : Side → Option Side → Bool
is_of A (Some A) = true
is_of B (Some B) = true
is_of _ _ = false

-- 1 if the side sends a check on the path, and 0 otherwise
abbrev pub check_count : Side → Path → Outcome → ℕ
check_count side path e = if is_of side e.side && is_check_on path e.entry.emitted.issued then 1 else 0

module _ {H P : Type 0} where
  -- Before each of these entries the side is controlled, and the other side is controlling.
  abbrev pub IsControlled : Side → List (Occurrence H P) → Type 0
  IsControlled side all = (x : Occurrence H P) → Has all x → ((at side x.before).controlling ≡ false) × ((at (other side) x.before).controlling ≡ true)

  -- A `handle_timeout` call of the side that succeeds and serves no early request.
  pub record IsPlainTimeout (side : Side) (x : Occurrence H P) : Type 0 where
    pub now : ℕ
    pub event : x.entry.event ≡ Call side (agent.HandleTimeout now)
    pub done : x.entry.outcome.entry.answer ≡ agent.Done
    pub serves_none : request_at now (at side x.before) ≡ None

  -- The packet is delivered to the side, on the path `via`.
  pub record Arrival (side : Side) (via : Path) (packet : Packet) (all : List (Occurrence H P)) : Type 0 where
    pub between : List (Occurrence H P)
    pub handed : Occurrence H P
    pub rest : List (Occurrence H P)
    pub split : all ≡ between ++ handed ∷ rest
    pub hands : Hands side via packet handed.before handed.entry

  -- In a `handle_timeout` call the side sends a check on the path. At any time after that the check is delivered to the other
  -- side, on a path `over` that reaches it. The side that sent the check and the side that receives it know each other.
  pub record HandedCheck (mac : H → List ℕ → List ℕ → List ℕ) (side : Side) (path over : Path) (all : List (Occurrence H P)) : Type 0 where
    pub before : List (Occurrence H P)
    pub sent : Occurrence H P
    pub following : List (Occurrence H P)
    pub split : all ≡ before ++ sent ∷ following
    pub now : ℕ
    pub check : Packet
    pub id : List ℕ
    pub timeout : sent.entry.event ≡ Call side (agent.HandleTimeout now)
    pub on : via_out check ≡ path
    pub sends : Sends (at side sent.before) sent.entry.outcome.entry Request id check (at side sent.following)
    pub comes : Arrival (other side) over check following
    pub know : KnowEachOther mac (at side sent.before) (at (other side) comes.handed.before)
    pub reached : IsReachedBy (at (other side) comes.handed.before) over

  -- The other side nominates the path: it sends a check on a path of its own, `its`, whose pairs are nominated. The check is
  -- delivered on the reverse path.
  abbrev pub IsAskedOver : (H → List ℕ → List ℕ → List ℕ) → Side → Path → List (Occurrence H P) → Type 0
  IsAskedOver mac side path all =
      (its : Path) × (k : HandedCheck mac (other side) its (reversed path) all) × AreNominatedOn (at (other side) k.sent.following) its

  -- how many checks the side sends on the path
  abbrev pub checks_of : Side → Path → List (Occurrence H P) → ℕ
  checks_of side path [] = 0
  checks_of side path (x ∷ rest) = check_count side path x.entry.outcome + checks_of side path rest

  -- A check on the path stays pending: the side sends fewer later checks on the path than it stores of a pair.
  pub record StaysPending (side : Side) (path : Path) (all : List (Occurrence H P)) : Type 0 where
    pub limit : ℕ
    pub kept : (x : Occurrence H P) → Has all x → limit ≤ (at side x.before).timing.max_retransmits
    pub few : checks_of side path all < limit

  -- The success response to the delivered check is delivered back to the side, from the path's destination to its source, while
  -- the check is pending. The side and the one that received the check still know each other.
  pub record IsReturned (mac : H → List ℕ → List ℕ → List ℕ) (side : Side) (path over : Path) (all : List (Occurrence H P)) (k : HandedCheck mac side path over all) (reply : Packet) : Type 0 where
    pub via : Path
    pub back : is_reverse via path ≡ true
    pub comes : Arrival side via reply k.comes.rest
    pub know : KnowEachOther mac (at side comes.handed.before) (at (other side) k.comes.handed.before)
    pub pending : StaysPending side path (k.comes.between ++ k.comes.handed ∷ comes.between)

  -- A call of the side may remove a pair of the path.
  abbrev pub MayEndAt : (P → CandidateRecord → ℕ → ℕ → Type 0) → Side → Path → Occurrence H P → Type 0
  MayEndAt answers side path x = (c : agent.Call P) × (x.entry.event ≡ Call side c) × Ends answers (at side x.before) c x.entry.outcome.entry path

  -- Until the response is delivered back, no call of the side may remove a pair of the path.
  pub record IsReturnedInTime (mac : H → List ℕ → List ℕ → List ℕ) (answers : P → CandidateRecord → ℕ → ℕ → Type 0) (side : Side) (path over : Path) (all : List (Occurrence H P)) (k : HandedCheck mac side path over all) (reply : Packet) : Type 0 where
    pub returned : IsReturned mac side path over all k reply
    pub stays : (x : Occurrence H P) → Has (k.comes.between ++ k.comes.handed ∷ returned.comes.between) x → MayEndAt answers side path x → ⊥

  -- The side checks the path, and receives the success response while the check is pending.
  abbrev pub IsExchangedOver : (H → List ℕ → List ℕ → List ℕ) → Side → Path → List (Occurrence H P) → Type 0
  IsExchangedOver mac side path all =
      (over : Path) × (k : HandedCheck mac side path over all)
      × ((reply : Packet) → Sends (at (other side) k.comes.handed.before) k.comes.handed.entry.outcome.entry Success k.id reply (at (other side) k.comes.handed.following)
      → IsReturned mac side path over all k reply)

  module _ (mac : H → List ℕ → List ℕ → List ℕ) (answers : P → CandidateRecord → ℕ → ℕ → Type 0) where
    -- the entries of an execution, with the states before and after each
    abbrev pub occurrences_in : (w : WorldRecord H P) (s : Streams) (n : ℕ) (log : List (LoggedEvent P)) (last : WorldRecord H P) (t : Streams) → WorldRun mac answers w s n log last t
        → List (Occurrence H P)
    occurrences_in w s n [] last t run = []
    occurrences_in w s n (x ∷ rest) last t run = record { before = w; entry = x; following = run.0 } ∷ occurrences_in run.0 run.1 (suc n) rest last t run.4

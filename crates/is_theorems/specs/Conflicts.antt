-- A role conflict, and the one check that resolves it (RFC 8445, sections 7.2.5.1 and 7.3.1.1).
use Rattle.std.specs.Prelude.{◌≡◌, ◌⊎◌, ℕ, ◌<◌, ◌≤◌, Bool, false, not, List}
use Rattle.is_proto.specs.Packets.{Packet}
use Rattle.is_candidate.specs.Candidates.{CandidateRecord}
use Rattle.is_stun.specs.declared.header.Class.TheVariants.{Failure}
use Rattle.is_rules.specs.declared.emitted.Path.{Path}
use Rattle.is_rules.specs.Agent.{AgentRecord}
use Rattle.is_rules.specs.Brought.{IsKept, IsServing, IsServedPastTests, IsRejectedBy}
use Rattle.is_theorems.specs.Delivery.{Sends, SentCheck}
use Rattle.is_theorems.specs.Exchange.{ReceivedSoon, ReturnedSoon}
use Rattle.is_rules.specs.Issuing.{via_out}
use Rattle.is_rules.specs.Request.{RequestRecord}
use Rattle.is_rules.specs.Roles.{keeps_role}
use Rattle.is_rules.specs.Steps.{Call, Entry, ReceivePacket}
use Rattle.is_rules.specs.Emitted.{reversed}

-- The packet is received as it was sent.
abbrev pub handing : {P : Type 0} → Packet → ℕ → Call P
handing packet at = ReceivePacket at (via_out packet) packet.contents

module _ {H P : Type 0} where
  -- Each pending transaction of the agent with this ID was sent in this role.
  abbrev pub AreSentUnder : Bool → AgentRecord H P → List ℕ → Type 0
  AreSentUnder role a id = (path : Path) (controlling : Bool) → IsKept a path id controlling → controlling ≡ role

  -- The transition serves a request that passes the tests of its username fragment and its destination.
  abbrev pub ServesPastTests : AgentRecord H P → Call P → Entry → Type 0
  ServesPastTests old call e = (q : RequestRecord) × IsServing old call e q × IsServedPastTests old q

  module _ (mac : H → List ℕ → List ℕ → List ℕ) (answers : P → CandidateRecord → ℕ → ℕ → Type 0) where
    -- The check reached an agent that has its sender's role, and no smaller tie-breaker, or that keeps its role whatever the tie-breakers
    -- are. It sends a 487 on the reverse path. If this is soon returned, the sender accepts it, if it does not keep its own role.
    -- Afterwards the sender has the other role, if all its pending transactions with this ID were sent in its role.
    pub record IsConflictSent (k : SentCheck mac answers) (c : ReceivedSoon mac answers k) : Type 0 where
      pub no_smaller : keeps_role c.receipt.receiver ≡ false → k.sender.tie_breaker ≤ c.receipt.receiver.tie_breaker
      pub stays : c.receipt.served.controlling ≡ c.receipt.receiver.controlling
      pub rejection : Packet
      pub via_back : via_out rejection ≡ reversed (via_out k.check)
      pub sends : Sends c.receipt.receiver c.receipt.handed Failure k.id rejection c.receipt.served
      pub returns : (r : ReturnedSoon mac answers c.near rejection) → keeps_role r.mid ≡ false
          → IsRejectedBy r.mid (handing rejection r.at) r.returned r.taken
          × (AreSentUnder k.sender.controlling r.mid k.id → r.taken.controlling ≡ not c.receipt.receiver.controlling)

    -- If a check is sent, and soon received, it is served. If its receiver has the role that the check was sent in, either it has
    -- the smaller tie-breaker and takes the other role, or it keeps its role and sends a 487.
    abbrev pub ConflictsResolve : Type 0
    ConflictsResolve =
        (k : SentCheck mac answers) (c : ReceivedSoon mac answers k)
        → ServesPastTests c.receipt.receiver (handing k.check c.receipt.at) c.receipt.handed
        × (c.receipt.receiver.controlling ≡ k.sender.controlling
        → ((c.receipt.receiver.tie_breaker < k.sender.tie_breaker) × (c.receipt.served.controlling ≡ not k.sender.controlling)) ⊎ IsConflictSent k c)

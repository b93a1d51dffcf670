-- A check on a nominated path carries USE-CANDIDATE, and the peer serves it as a nomination (RFC 8445, sections 7.1 and 7.3.1.5).
use Rattle.std.specs.Prelude.{◌≡◌, ℕ, true, false, List, Some}
use Rattle.is_proto.specs.Lists.{Has}
use Rattle.is_candidate.specs.Candidates.{CandidateRecord}
use Rattle.is_pair.specs.Pairs.{PairRecord}
use Rattle.is_stun.specs.declared.header.Class.TheVariants.{Success}
use Rattle.is_rules.specs.declared.emitted.Path.{Path}
use Rattle.is_rules.specs.Agent.{AgentRecord}
use Rattle.is_rules.specs.Brought.{IsServing}
use Rattle.is_rules.specs.Serving.{nominates}
use Rattle.is_theorems.specs.Delivery.{SentCheck}
use Rattle.is_theorems.specs.Exchange.{ReceivedSoon}
use Rattle.is_rules.specs.Issuing.{via_out}
use Rattle.is_rules.specs.Nominating.{stays_nominated}
use Rattle.is_rules.specs.Request.{RequestRecord}
use Rattle.is_rules.specs.Sending.{path_of}
use Rattle.is_rules.specs.Steps.{Call, Entry, ReceivePacket}
use Rattle.is_rules.specs.Emitted.{issued_as, reversed}

module _ {H P : Type 0} where
  -- Each pair on the path is nominated, and its nomination is not replaced by a later one.
  abbrev pub AreNominatedOn : AgentRecord H P → Path → Type 0
  AreNominatedOn a path = (p : PairRecord) → Has a.pairs p → path_of a p ≡ path → stays_nominated a p ≡ true

  -- The nomination is accepted: the transition serves a request that nominates, and issues its success response on the path.
  abbrev pub AcceptsNomination : AgentRecord H P → Call P → Entry → Path → Type 0
  AcceptsNomination old call e path =
      (q : RequestRecord) × (id : List ℕ) × IsServing old call e q × (nominates old q ≡ true) × (e.emitted.issued ≡ Some (issued_as path Success id))

  module _ (mac : H → List ℕ → List ℕ → List ℕ) (answers : P → CandidateRecord → ℕ → ℕ → Type 0) where
    -- If a controlling agent sends a check on a path whose pairs are nominated afterwards, and a controlled agent soon receives
    -- it, the controlled agent accepts the nomination of the reverse path, and issues its success response on it.
    abbrev pub ChecksAsk : Type 0
    ChecksAsk =
        (k : SentCheck mac answers) (c : ReceivedSoon mac answers k) → k.sender.controlling ≡ true → c.receipt.receiver.controlling ≡ false
        → AreNominatedOn k.sent (via_out k.check)
        → AcceptsNomination c.receipt.receiver (ReceivePacket c.receipt.at (via_out k.check) k.check.contents) c.receipt.handed (reversed (via_out k.check))

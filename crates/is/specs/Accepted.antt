-- Which bytes an agent accepts, and what happens to those that it does not accept.
use Rattle.std.specs.Prelude.{◌≡◌, ℕ, true, false, List, ◌⊎◌}
use Rattle.rand_core.specs.Stream.{Stream}
use Rattle.is_proto.specs.declared.error.IceError.{IceError}
use Rattle.is_proto.specs.declared.error.ParseFault.{ParseFault}
use Rattle.is_stun.specs.Message.{Message}
use Rattle.is_stun.specs.Reading.{Reads}
use Rattle.is_candidate.specs.Candidates.{CandidateRecord}
use Rattle.is_rules.specs.declared.emitted.Path.{Path}
use Rattle.is_rules.specs.Agent.{AgentRecord}
use Rattle.is_rules.specs.Accepting.{IsAcceptedOn}
use Rattle.is_rules.specs.Emitted.{nothing_emitted}
use Rattle.is_rules.specs.Steps.{ReceivePacket, Answer, Flag, Unparsed, Rejected, NotInWorld, Entry, quiet, Receives}
use Rattle.is_theorems.specs.Logs.{Logged}
use Rattle.is_theorems.specs.Runs.{AtEach}

-- The call returns false, or the parse fault of the bytes.
abbrev pub SaysNo : Answer → Type 0
SaysNo answer = (answer ≡ Flag false) ⊎ ((fault : ParseFault) × (answer ≡ Unparsed fault))

-- The call returns true, or it fails.
abbrev pub SaysYes : Answer → Type 0
SaysYes answer = (answer ≡ Flag true) ⊎ ((error : IceError) × (answer ≡ Rejected error))

-- The state does not change, nothing is issued or selected, and the bytes are not accepted.
pub record ChangesNothing {H P : Type 0} (old : AgentRecord H P) (e : Entry) (new : AgentRecord H P) : Type 0 where
  pub same : new ≡ old
  pub emitted : e.emitted ≡ nothing_emitted
  pub answer : SaysNo e.answer

module _ {H P : Type 0} (mac : H → List ℕ → List ℕ → List ℕ) where
  -- The bytes encode a message that the agent accepts on the path on which it was received.
  abbrev pub AcceptsOnPath : AgentRecord H P → Path → List ℕ → Type 0
  AcceptsOnPath a path bytes = (m : Message) × Reads bytes m × IsAcceptedOn mac a path m

  -- The agent receives bytes that it does not accept: it does nothing, and returns what it returns for such a packet. It does not receive
  -- bytes that it would accept.
  abbrev pub LeavesOut : (P → CandidateRecord → ℕ → ℕ → Type 0) → ℕ → AgentRecord H P → Path → List ℕ → Answer → Type 0
  LeavesOut answers now a path bytes answer =
      (Receives mac answers now a path bytes (quiet answer) a × ¬ AcceptsOnPath a path bytes) ⊎ ((answer ≡ NotInWorld) × AcceptsOnPath a path bytes)

  -- Bytes that are not accepted change nothing. For accepted bytes the call returns true, or it fails.
  pub record IsHandled (old : AgentRecord H P) (path : Path) (bytes : List ℕ) (e : Entry) (new : AgentRecord H P) : Type 0 where
    pub unaccepted : ¬ AcceptsOnPath old path bytes → ChangesNothing old e new
    pub accepted : AcceptsOnPath old path bytes → SaysYes e.answer

  -- Each packet in the log that is not accepted changes nothing. For an accepted one the call returns true, or it fails.
  abbrev pub PacketsAreHandled : (P → CandidateRecord → ℕ → ℕ → Type 0) → AgentRecord H P → Stream → List (Logged P) → Type 0
  PacketsAreHandled answers first s log =
      AtEach mac answers first s log (λ before mid x after. (now : ℕ) (path : Path) (bytes : List ℕ)
      → x.call ≡ ReceivePacket now path bytes → IsHandled mid path bytes x.entry after)

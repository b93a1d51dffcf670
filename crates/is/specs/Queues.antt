-- What calls issue, and the order in which it is polled.
use Rattle.std.specs.Prelude.{◌≡◌, ℕ, Bool, true, false, List, None}
use Rattle.rand_core.specs.Stream.{Stream}
use Rattle.is_candidate.specs.Candidates.{CandidateRecord}
use Rattle.is_rules.specs.Agent.{AgentRecord}
use Rattle.is_rules.specs.Issuing.{QueuesPackets}
use Rattle.is_theorems.specs.Reporting.{Reports}
use Rattle.is_rules.specs.Steps.{Call, ReceivePacket, HandleTimeout, Entry}
use Rattle.is_theorems.specs.Logs.{Logged}
use Rattle.is_theorems.specs.Runs.{AtEach}

-- Received packets and `handle_timeout` calls may issue packets. Each issues at most one, since a log entry holds only one.
abbrev pub may_issue : {P : Type 0} → Call P → Bool
may_issue (ReceivePacket now path bytes) = true
may_issue (HandleTimeout now) = true
may_issue _ = false

abbrev pub IssuesNone : {P : Type 0} → Call P → Entry → Type 0
IssuesNone call e = may_issue call ≡ false → e.emitted.issued ≡ None

module _ {H P : Type 0} (mac : H → List ℕ → List ℕ → List ℕ) (answers : P → CandidateRecord → ℕ → ℕ → Type 0) where
  -- Only received packets and `handle_timeout` calls issue packets.
  abbrev pub OthersIssueNone : AgentRecord H P → Stream → List (Logged P) → Type 0
  OthersIssueNone first s log = AtEach mac answers first s log (λ before mid x after. IssuesNone x.call x.entry)

  -- What is issued is appended to its queue, a poll removes the first element, and an ICE restart leaves only its own events. With
  -- `Modern`, `recreate_candidate_pairs` removes each `NominatedSend` that waits.
  abbrev pub QueuesAreKept : AgentRecord H P → Stream → List (Logged P) → Type 0
  QueuesAreKept first s log =
      AtEach mac answers first s log (λ before mid x after.
      QueuesPackets x.call x.entry mid.packets after.packets × Reports mid.timing.profile x.call x.entry mid.events after.events)

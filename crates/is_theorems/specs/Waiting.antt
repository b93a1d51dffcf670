-- How many packets, events and early requests wait in an agent, whatever it receives.
use Rattle.std.specs.Prelude.{ℕ, ◌+◌, ◌≤◌, Bool, true, false, not, List, [], ◌∷◌, length, count_by, is_some, if◌then◌else◌}
use Rattle.is_candidate.specs.Candidates.{CandidateRecord}
use Rattle.is_rules.specs.declared.event.IceAgentEvent.{IceAgentEvent}
use Rattle.is_rules.specs.declared.event.IceAgentEvent.TheVariants.{DiscoveredRecv}
use Rattle.is_rules.specs.Agent.{AgentRecord}
use Rattle.is_theorems.specs.Logs.{Logged, numbering_of}
use Rattle.is_rules.specs.Queue.{QUEUE_LIMIT}
use Rattle.is_rules.specs.Steps.{Call, AddLocalCandidate, AddRemoteCandidate, InvalidateCandidate, RestartIce, RecreateCandidatePairs, ReceivePacket, HandleTimeout, PollTransmit, PollEvent}
use Rattle.is_rules.specs.Steps.{Answer, Done, Added, Flag, Polled, Happened, is_done}
use Rattle.is_theorems.specs.Shared.{IsNewlyCreated, SharedRun}

-- The call returned Ok, or the packet was accepted, or a candidate was added or invalidated.
abbrev pub is_taken : Answer → Bool
is_taken Done = true
is_taken Added = true
is_taken (Flag accepted) = accepted
is_taken _ = false

-- ---- packets

-- how many packets the call issues at most
abbrev pub packets_of : {P : Type 0} → Call P → ℕ
packets_of (ReceivePacket now path bytes) = 1
packets_of (HandleTimeout now) = 1
packets_of _ = 0

-- `poll_transmit` returned None.
abbrev pub finds_no_packet : Answer → Bool
finds_no_packet (Polled given) = not (is_some given)
finds_no_packet _ = false

-- No packet waits after the call: `poll_transmit` returned None, or the agent was restarted.
abbrev pub leaves_no_packet : {P : Type 0} → Call P → Answer → Bool
leaves_no_packet PollTransmit answer = finds_no_packet answer
leaves_no_packet (RestartIce creds keep) answer = is_done answer
leaves_no_packet _ answer = false

-- The accepted packets and the `handle_timeout` calls since no packet waited.
abbrev pub most_packets : {P : Type 0} → List (Logged P) → ℕ
most_packets [] = 0
most_packets (x ∷ before) =
    (if is_taken x.entry.answer then packets_of x.call else 0) + (if leaves_no_packet x.call x.entry.answer then 0 else most_packets before)

-- ---- events

abbrev pub is_discovery : IceAgentEvent → Bool
is_discovery (DiscoveredRecv proto source) = true
is_discovery _ = false

abbrev pub discovery_count : List IceAgentEvent → ℕ
discovery_count events = count_by is_discovery events

-- how many events are not `DiscoveredRecv`
abbrev pub other_count : List IceAgentEvent → ℕ
other_count events = count_by (λ (e : IceAgentEvent). not (is_discovery e)) events

-- How many events the call emits at most, `DiscoveredRecv` aside. A packet: a selected path and a state. A `handle_timeout` call: the
-- start, two selected paths and two states. With `Modern` a candidate that takes the selected pair away: a selected path and a state.
abbrev pub events_of : {P : Type 0} → (modern : Bool) → Call P → ℕ
events_of modern (ReceivePacket now path bytes) = 2
events_of modern (HandleTimeout now) = 5
events_of modern (RestartIce creds keep) = 2
events_of modern RecreateCandidatePairs = 1
events_of modern (AddLocalCandidate c) = if modern then 2 else 0
events_of modern (AddRemoteCandidate c) = if modern then 2 else 0
events_of modern (InvalidateCandidate c) = if modern then 2 else 0
events_of modern _ = 0

-- `poll_event` returned None.
abbrev pub finds_no_event : Answer → Bool
finds_no_event (Happened given) = not (is_some given)
finds_no_event _ = false

-- No older event waits after the call: `poll_event` returned None, or the agent was restarted.
abbrev pub leaves_no_event : {P : Type 0} → Call P → Answer → Bool
leaves_no_event PollEvent answer = finds_no_event answer
leaves_no_event (RestartIce creds keep) answer = is_done answer
leaves_no_event _ answer = false

-- The events, `DiscoveredRecv` aside, that the calls since no older event waited emit at most.
abbrev pub most_events : {P : Type 0} → List (Logged P) → ℕ
most_events [] = 0
most_events (x ∷ before) =
    (if is_taken x.entry.answer then events_of (numbering_of before).1 x.call else 0) + (if leaves_no_event x.call x.entry.answer then 0 else most_events before)

-- ---- what waits after a log

module _ {H P : Type 0} where
  -- At most as many packets as accepted packets and `handle_timeout` calls since no packet waited, at most as many events as the calls
  -- since no event waited emit, and at most `QUEUE_LIMIT` early requests.
  pub record IsShort (log : List (Logged P)) (a : AgentRecord H P) : Type 0 where
    pub packets : length a.packets ≤ most_packets log
    pub others : other_count a.events ≤ most_events log
    pub requests : length a.queue ≤ QUEUE_LIMIT

  module _ (mac : H → List ℕ → List ℕ → List ℕ) (answers : P → CandidateRecord → ℕ → ℕ → Type 0) where
    -- After any execution of a newly created agent the queues are as short as `IsShort` says.
    abbrev pub QueuesAreShort : Type 0
    QueuesAreShort = (first last : AgentRecord H P) (log : List (Logged P)) → IsNewlyCreated first → SharedRun mac answers first log last → IsShort log last

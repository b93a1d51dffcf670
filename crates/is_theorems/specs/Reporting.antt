-- How a call changes the event queue.
use Rattle.std.specs.Prelude.{◌≡◌, ℕ, true, List, [], ◌∷◌, ◌++◌, Option, Some, ◌⊎◌}
use Rattle.rand_core.specs.Stream.{Stream}
use Rattle.is_proto.specs.Lists.{Has}
use Rattle.is_candidate.specs.Candidates.{CandidateRecord}
use Rattle.is_stun.specs.declared.timing.Profile.{Profile}
use Rattle.is_stun.specs.declared.timing.Profile.TheVariants.{Original, Modern}
use Rattle.is_rules.specs.declared.credentials.IceCreds.{IceCreds}
use Rattle.is_rules.specs.declared.emitted.Path.{Path}
use Rattle.is_rules.specs.declared.event.IceAgentEvent.{IceAgentEvent}
use Rattle.is_rules.specs.declared.event.IceAgentEvent.TheVariants.{IceRestart, IceConnectionStateChange, NominatedSend}
use Rattle.is_rules.specs.declared.event.IceConnectionState.TheVariants.{Checking}
use Rattle.is_rules.specs.Agent.{AgentRecord}
use Rattle.is_rules.specs.Polls.{IsPolled}
use Rattle.is_rules.specs.Restarting.{events_kept}
use Rattle.is_rules.specs.Steps.{Call, RestartIce, RecreateCandidatePairs, PollEvent, Answer, Done, Happened, Entry, quiet, Step}
use Rattle.is_rules.specs.Issuing.{QueuesPackets}

-- Elements are appended at the end.
abbrev pub Extends : {X : Type 0} → List X → List X → Type 0
Extends old new = (more : List _) × (new ≡ old ++ more)

-- An ICE restart that succeeds leaves only its own events: `IceRestart`, and the state change if there is one.
abbrev pub Begins : Answer → IceCreds → List IceAgentEvent → List IceAgentEvent → Type 0
Begins Done creds old new = (new ≡ IceRestart creds ∷ []) ⊎ (new ≡ IceRestart creds ∷ IceConnectionStateChange Checking ∷ [])
Begins _ creds old new = new ≡ old

-- Pairs are formed again. With `Original` nothing is removed. With `Modern`, if that succeeds, each `NominatedSend` that waits is removed, since its
-- pair is gone, and the state change is appended, if there is one.
abbrev pub FormsAgain : Profile → Answer → List IceAgentEvent → List IceAgentEvent → Type 0
FormsAgain Original answer old new = Extends old new
FormsAgain Modern Done old new = (new ≡ events_kept true old) ⊎ (new ≡ events_kept true old ++ IceConnectionStateChange Checking ∷ [])
FormsAgain Modern _ old new = new ≡ old

-- `poll_event` removes the first event. Any other call appends, except an ICE restart, and with `Modern` `recreate_candidate_pairs`.
abbrev pub Reports : {P : Type 0} → Profile → Call P → Entry → List IceAgentEvent → List IceAgentEvent → Type 0
Reports profile PollEvent e old new = (given : Option IceAgentEvent) × (e ≡ quiet (Happened given)) × IsPolled old given new
Reports profile (RestartIce creds keep) e old new = Begins e.answer creds old new
Reports profile RecreateCandidatePairs e old new = FormsAgain profile e.answer old new
Reports profile _ e old new = Extends old new

-- the event that reports a selected path
abbrev pub selecting : Path → IceAgentEvent
selecting path = NominatedSend path.proto path.source path.destination

module _ {H P : Type 0} (mac : H → List ℕ → List ℕ → List ℕ) (answers : P → CandidateRecord → ℕ → ℕ → Type 0) where
  -- The theorem: packets and events are polled in the order in which they were issued, in any state of the agent.
  abbrev pub QueuesTheorem : Type 0
  QueuesTheorem =
      (old new : AgentRecord H P) (s t : Stream) (call : Call P) (e : Entry)
      → Step mac answers old s call e new t
      → QueuesPackets call e old.packets new.packets × Reports old.timing.profile call e old.events new.events

  -- The theorem: a `NominatedSend` that waits after a call waited before it, or reports a path that the call selects. So no other path is
  -- reported.
  abbrev pub EventsAreSelected : Type 0
  EventsAreSelected =
      (old new : AgentRecord H P) (s t : Stream) (call : Call P) (e : Entry) → Step mac answers old s call e new t
      → (path : Path) → Has new.events (selecting path) → Has old.events (selecting path) ⊎ Has e.emitted.selected_paths (Some path)

-- The transition relation of the agent. From the state and the random stream before it, the call may give this log entry, and the
-- state and the stream after it. There is one case for each call.
use Rattle.std.specs.Prelude.{◌≡◌, ℕ, ◌==◌, Bool, true, false, not, List, Option, Some, None, MatchBool, Result, Ok, Err, ◌⊎◌}
use Rattle.rand_core.specs.Stream.{Stream}
use Rattle.is_proto.specs.Packets.{Packet}
use Rattle.is_proto.specs.declared.error.IceError.{IceError}
use Rattle.is_proto.specs.declared.error.ParseFault.{ParseFault}
use Rattle.is_candidate.specs.Candidates.{CandidateRecord}
use Rattle.is_stun.specs.Message.{Message}
use Rattle.is_stun.specs.Reading.{Reads, Fault}
use Rattle.is_stun.specs.declared.timing.Profile.{Profile}
use Rattle.is_stun.specs.declared.timing.ConsentSetting.{ConsentSetting}
use Rattle.is_rules.specs.declared.credentials.IceCreds.{IceCreds}
use Rattle.is_rules.specs.declared.event.IceAgentEvent.{IceAgentEvent}
use Rattle.is_rules.specs.declared.emitted.Path.{Path}
use Rattle.is_rules.specs.declared.emitted.Emitted.{Emitted}
use Rattle.is_rules.specs.Emitted.{nothing_emitted}
use Rattle.is_rules.specs.Agent.{AgentRecord}
use Rattle.is_rules.specs.Settings.{controlling_set, SetsMtu, with_rtos, with_consent, with_profile, with_retransmits, with_lite_timeout, numbers_skipped}
use Rattle.is_rules.specs.Credentials.{SetsLocal, SetsRemote}
use Rattle.is_rules.specs.Discarding.{Invalidates}
use Rattle.is_rules.specs.Local.{AddsLocal}
use Rattle.is_rules.specs.Remote.{AddsRemote}
use Rattle.is_rules.specs.Restarting.{Restarts, Recreates}
use Rattle.is_rules.specs.StateUpdates.{ReselectsAfter}
use Rattle.is_rules.specs.Accepting.{HandlesPacket}
use Rattle.is_rules.specs.Timeouts.{TimesOut}
use Rattle.is_rules.specs.Polls.{PollsTransmit, PollsEvent, PollsTimeout}

-- ---- calls: each call that can change an agent

pub data Call (P : Type 0) : Type 0 where
  -- settings; the target MTU, and the packet length from which a warning is due
  SetMtu : ℕ → ℕ → Call P
  SetControlTieBreaker : ℕ → Call P
  SetMaxCandidatePairs : ℕ → Call P
  SetMaxDiscovered : Option ℕ → Call P
  SetMaxCandidates : Option ℕ → Call P
  SetIceLite : Bool → Call P
  SetRenomination : Bool → Call P
  SetProfile : Profile → Call P
  SetConsent : ConsentSetting → Call P
  SetTimingAdvance : ℕ → Call P
  SetInitialStunRto : ℕ → Call P
  SetMaxStunRto : ℕ → Call P
  SetMaxStunRetransmits : ℕ → Call P
  SetLiteTimeout : ℕ → Call P
  SetLocalPreference : P → Call P
  SetControlling : Bool → Call P
  SetLocalCredentials : IceCreds → Call P
  SetRemoteCredentials : IceCreds → Call P
  SkipPairIds : ℕ → Call P
  -- candidates
  AddLocalCandidate : CandidateRecord → Call P
  AddRemoteCandidate : CandidateRecord → Call P
  InvalidateCandidate : CandidateRecord → Call P
  RestartIce : IceCreds → Bool → Call P
  RecreateCandidatePairs : Call P
  -- packets, timeouts and polls; of a packet: the time, the path on which it was received, and its raw bytes
  ReceivePacket : ℕ → Path → List ℕ → Call P
  HandleTimeout : ℕ → Call P
  PollTransmit : Call P
  PollTimeout : Call P
  PollEvent : Call P

-- ---- what the caller observes

pub data Answer : Type 0 where
  Done : Answer
  Added : Answer
  NotAdded : Answer
  Flag : Bool → Answer
  Polled : Option Packet → Answer
  Happened : Option IceAgentEvent → Answer
  NextTimeout : Option ℕ → Answer
  Unparsed : ParseFault → Answer
  Rejected : IceError → Answer
  -- results of calls that were not made
  NotCalled : Answer
  NotInWorld : Answer
  NoSuchPacket : Answer

-- a log entry: the call's recorded result, and what the call emitted
pub record Entry : Type 0 where
  pub answer : Answer
  pub emitted : Emitted

-- nothing issued and no path selected
abbrev pub quiet : Answer → Entry
quiet answer = record { answer = answer; emitted = nothing_emitted }

-- the recorded result of a call

abbrev pub answer_by : {A : Type 0} → (A → Answer) → Result A IceError → Answer
answer_by to_answer (Ok x) = to_answer x
answer_by to_answer (Err error) = Rejected error

abbrev pub done : Unit {0} → Answer
done _ = Done

abbrev pub added : Option ℕ → Answer
added None = NotAdded
added (Some place) = Added

abbrev pub is_done : Answer → Bool
is_done Done = true
is_done _ = false

abbrev pub is_rejection : Answer → Bool
is_rejection (Rejected error) = true
is_rejection _ = false

-- The bytes are not a STUN message, or are not accepted.
abbrev pub is_not_accepted : Answer → Bool
is_not_accepted (Flag accepted) = not accepted
is_not_accepted (Unparsed fault) = true
is_not_accepted _ = false

-- ---- the transition relation

-- The call succeeds, and draws no random words.
abbrev pub Becomes : {A : Type 0} → A → Stream → Entry → A → Stream → Type 0
Becomes needed s e new t = (e ≡ quiet Done) × (new ≡ needed) × (t ≡ s)

-- The call succeeds or fails, and draws no random words.
abbrev pub MayDo : {A : Type 0} → (Result (Unit {0}) IceError → A → Type 0) → Stream → Entry → A → Stream → Type 0
MayDo Does s e new t = (r : Result (Unit {0}) IceError) × (e ≡ quiet (answer_by done r)) × Does r new × (t ≡ s)

-- The call draws no random words. It may remove the selected pair, and then select another path.
abbrev pub MaySelect : {H P A : Type 0} → (A → Answer) → (A → AgentRecord H P → Type 0) → AgentRecord H P → Stream → Entry
    → AgentRecord H P → Stream → Type 0
MaySelect {A = A} to_answer Does old s e new t =
    (r : A) × (emitted : Emitted) × (e ≡ record { answer = to_answer r; emitted = emitted })
    × ReselectsAfter (Does r) old emitted new × (t ≡ s)

module _ {H P : Type 0} (mac : H → List ℕ → List ℕ → List ℕ) (answers : P → CandidateRecord → ℕ → ℕ → Type 0) where
  -- A received packet makes the transition of the message that its bytes encode. Bytes that are not a STUN message change
  -- nothing.
  abbrev pub Receives : ℕ → AgentRecord H P → Path → List ℕ → Entry → AgentRecord H P → Type 0
  Receives now old path bytes e new =
      ((fault : ParseFault) × Fault bytes fault × (e ≡ quiet (Unparsed fault)) × (new ≡ old))
      ⊎ ((m : Message) × Reads bytes m × ((r : Result Bool IceError) × (emitted : Emitted)
      × (e ≡ record { answer = answer_by Flag r; emitted = emitted }) × HandlesPacket mac now old path m r emitted new))

  -- A limit of no retransmits violates a precondition of the agent, so the call is not made.
  abbrev pub SetsRetransmits : ℕ → AgentRecord H P → Stream → Entry → AgentRecord H P → Stream → Type 0
  SetsRetransmits n old s e new t =
      MatchBool (n == 0) ((e ≡ quiet NotCalled) × (new ≡ old) × (t ≡ s)) (Becomes (with_retransmits n old) s e new t)

  -- The call leads from the first state and random stream to this log entry, and to the second ones. Only `handle_timeout` draws random
  -- words.
  abbrev pub Step : AgentRecord H P → Stream → Call P → Entry → AgentRecord H P → Stream → Type 0
  Step old s (SetMtu target warn) e new t = MayDo (SetsMtu old target warn) s e new t
  Step old s (SetControlTieBreaker tie_breaker) e new t = Becomes (record old { tie_breaker = tie_breaker }) s e new t
  Step old s (SetMaxCandidatePairs n) e new t = Becomes (record old { max_pairs = n }) s e new t
  Step old s (SetMaxDiscovered limit) e new t = Becomes (record old { max_discovered = limit }) s e new t
  Step old s (SetMaxCandidates limit) e new t = Becomes (record old { max_candidates = limit }) s e new t
  Step old s (SetIceLite lite) e new t = Becomes (record old { lite = lite }) s e new t
  Step old s (SetRenomination renominates) e new t = Becomes (record old { renominates = renominates }) s e new t
  Step old s (SetProfile profile) e new t = Becomes (with_profile profile old) s e new t
  Step old s (SetConsent consent) e new t = Becomes (with_consent consent old) s e new t
  Step old s (SetTimingAdvance by) e new t = Becomes (record old { timing_advance = by }) s e new t
  Step old s (SetInitialStunRto rto) e new t = Becomes (with_rtos rto old.timing.max_rto.0 old) s e new t
  Step old s (SetMaxStunRto rto) e new t = Becomes (with_rtos old.timing.initial_rto.0 rto old) s e new t
  Step old s (SetMaxStunRetransmits n) e new t = SetsRetransmits n old s e new t
  Step old s (SetLiteTimeout by) e new t = Becomes (with_lite_timeout by old) s e new t
  Step old s (SetLocalPreference object) e new t = Becomes (record old { preference = Some object }) s e new t
  Step old s (SetControlling controlling) e new t = Becomes (controlling_set controlling old) s e new t
  Step old s (SetLocalCredentials creds) e new t = MayDo (SetsLocal old creds) s e new t
  Step old s (SetRemoteCredentials creds) e new t = MayDo (SetsRemote old creds) s e new t
  Step old s (SkipPairIds n) e new t = Becomes (numbers_skipped n old) s e new t
  Step old s (AddLocalCandidate c) e new t = MaySelect (answer_by added) (AddsLocal answers old c) old s e new t
  Step old s (AddRemoteCandidate c) e new t = MaySelect (answer_by done) (AddsRemote old c) old s e new t
  Step old s (InvalidateCandidate c) e new t = MaySelect Flag (Invalidates old c) old s e new t
  Step old s (RestartIce creds keep) e new t = MayDo (Restarts old creds keep) s e new t
  Step old s RecreateCandidatePairs e new t = MayDo (Recreates old) s e new t
  Step old s (ReceivePacket now path bytes) e new t = Receives now old path bytes e new × (t ≡ s)
  Step old s (HandleTimeout now) e new t =
      (r : Result (Unit {0}) IceError) × (emitted : Emitted) × (e ≡ record { answer = answer_by done r; emitted = emitted })
      × TimesOut mac now old s r emitted new t
  Step old s PollTransmit e new t = (given : Option Packet) × (e ≡ quiet (Polled given)) × PollsTransmit old given new × (t ≡ s)
  Step old s PollTimeout e new t = (deadline : Option ℕ) × (e ≡ quiet (NextTimeout deadline)) × PollsTimeout old deadline new × (t ≡ s)
  Step old s PollEvent e new t = (given : Option IceAgentEvent) × (e ≡ quiet (Happened given)) × PollsEvent old given new × (t ≡ s)

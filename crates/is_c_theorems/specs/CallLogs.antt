-- The log of an agent's transitions that C's calls are.
use Rattle.std.specs.Prelude.{◌≡◌, ℕ, ◌⊎◌, Bool, true, false, List, [], ◌∷◌, length, Option, Some, None, Ok, ℤ}
use Rattle.is_proto.specs.Packets as packets
use Rattle.is_candidate.specs.Candidates.{CandidateRecord}
use Rattle.is_rules.specs.declared.credentials.IceCreds.{IceCreds}
use Rattle.is_rules.specs.declared.emitted.Path.{Path}
use Rattle.is_rules.specs.declared.event.IceAgentEvent.{IceAgentEvent}
use Rattle.is_rules.specs.declared.settings.Settings.{Settings}
use Rattle.is_rules.specs.Agent.{fresh}
use Rattle.is_rules.specs.Settings.{modern_settings}
use Rattle.is_rules.specs.Steps as agent
use Rattle.is_rules.specs.Steps.{Call, Answer, Done, Flag, Polled, Happened, NextTimeout, Unparsed, Rejected, is_done, quiet}
use Rattle.is_theorems.specs.Logs.{Logged}
use Rattle.is_theorems.specs.Settings.{setters_of}
use Rattle.is_theorems.specs.Shared.{SharedRun}
use Rattle.is_monitor.specs.declared.monitor.Silence.{Silence}
use Rattle.is_c_calls.specs.declared.agent_settings.AgentSettings.{AgentSettings}
use Rattle.is_c_calls.specs.declared.events.Event.{Event}
use Rattle.is_c_calls.specs.declared.preference.Preference.{Preference}
use Rattle.is_c_calls.specs.AgentSettings.{settings_of}
use Rattle.is_c_calls.specs.Candidates.{MakesCandidate, ReadsBytes}
use Rattle.is_c_calls.specs.Clock.{agent_time}
use Rattle.is_c_calls.specs.Codes.{OK, NOTHING, UNPARSED, code_of, found_code}
use Rattle.is_c_calls.specs.Events.{ReturnsOf}
use Rattle.is_c_calls.specs.Held.{Held, HeldRecord}
use Rattle.is_c_calls.specs.Limits.{limit_of}
use Rattle.is_c_calls.specs.Making.{fresh_held}
use Rattle.is_c_calls.specs.Monitoring.{ReturnsSilence}
use Rattle.is_c_calls.specs.Packets.{packet_path}
use Rattle.is_c_calls.specs.Preferences.{answers}
use Rattle.is_c_calls.specs.Sessions.{Used, Session, is_ok}
use Rattle.is_c_calls.specs.Uses.{Use, Ask, SetControlling, SetLite, SetRenomination, SetTieBreaker, SetMaxPairs, SetMaxDiscovered, SetMaxCandidates, SetTimingAdvance, SetInitialRto, SetMaxRto, SetLiteTimeout, SetMaxRetransmits, SetMtu, SetPreference, SetSettings, SkipPairIds, SetSilence, SetLocalCredentials, SetRemoteCredentials, AddLocal, AddLocalLine, AddRemote, InvalidateLocal, Invalidate, Restart, RecreatePairs, HandlePacket, HandleTimeout, PollTransmit, PollTimeout, PollEvent, SendFailed, FixTimes, mac_of}

-- ---- one call

-- The call of the agent that a call of C makes, if it makes one. `is_ice_set_settings` makes several: see `AddsTo`.
abbrev pub Makes : Use → Call Preference → Type 0
Makes Ask call = ⊥
Makes (SetControlling role) call = call ≡ agent.SetControlling role
Makes (SetLite lite) call = call ≡ agent.SetIceLite lite
Makes (SetRenomination enabled) call = call ≡ agent.SetRenomination enabled
Makes (SetTieBreaker tie_breaker) call = call ≡ agent.SetControlTieBreaker tie_breaker
Makes (SetMaxPairs limit) call = call ≡ agent.SetMaxCandidatePairs limit
Makes (SetMaxDiscovered limit) call = call ≡ agent.SetMaxDiscovered (limit_of limit)
Makes (SetMaxCandidates limit) call = call ≡ agent.SetMaxCandidates (limit_of limit)
Makes (SetTimingAdvance by) call = call ≡ agent.SetTimingAdvance by
Makes (SetInitialRto rto) call = call ≡ agent.SetInitialStunRto rto
Makes (SetMaxRto rto) call = call ≡ agent.SetMaxStunRto rto
Makes (SetLiteTimeout by) call = call ≡ agent.SetLiteTimeout by
Makes (SetMaxRetransmits limit) call = call ≡ agent.SetMaxStunRetransmits limit
Makes (SetMtu mtu warn) call = call ≡ agent.SetMtu mtu warn
Makes (SetPreference preference) call = call ≡ agent.SetLocalPreference preference
Makes (SetSettings settings) call = ⊥
Makes (SkipPairIds number) call = call ≡ agent.SkipPairIds number
Makes (SetSilence n) call = ⊥
Makes (SetLocalCredentials ufrag pass) call = call ≡ agent.SetLocalCredentials (record { ufrag = ufrag; pass = pass })
Makes (SetRemoteCredentials ufrag pass) call = call ≡ agent.SetRemoteCredentials (record { ufrag = ufrag; pass = pass })
Makes (AddLocal c before after) call = (made : CandidateRecord) × MakesCandidate c (Some (Ok made)) × (call ≡ agent.AddLocalCandidate made)
Makes (AddLocalLine line before after) call = (made : CandidateRecord) × ReadsBytes line (Some (Ok made)) × (call ≡ agent.AddLocalCandidate made)
Makes (AddRemote line before after) call = (made : CandidateRecord) × ReadsBytes line (Some (Ok made)) × (call ≡ agent.AddRemoteCandidate made)
Makes (InvalidateLocal c) call = (made : CandidateRecord) × MakesCandidate c (Some (Ok made)) × (call ≡ agent.InvalidateCandidate made)
Makes (Invalidate line) call = (made : CandidateRecord) × ReadsBytes line (Some (Ok made)) × (call ≡ agent.InvalidateCandidate made)
Makes (Restart ufrag pass keep) call = call ≡ agent.RestartIce (record { ufrag = ufrag; pass = pass }) keep
Makes RecreatePairs call = call ≡ agent.RecreateCandidatePairs
Makes (HandlePacket now protocol source destination bytes) call =
    (path : Path) × (packet_path protocol source destination ≡ Some path) × (call ≡ agent.ReceivePacket (agent_time now) path bytes)
Makes (HandleTimeout now random) call = call ≡ agent.HandleTimeout (agent_time now)
Makes (PollTransmit before after known reported) call = call ≡ agent.PollTransmit
Makes (PollTimeout before after) call = call ≡ agent.PollTimeout
Makes (FixTimes soon) call = call ≡ agent.PollTimeout
Makes (PollEvent before after) call = call ≡ agent.PollEvent
Makes (SendFailed protocol source destination reason) call = ⊥

-- the code of what the agent returned
abbrev pub code_by : Answer → ℤ
code_by Done = OK
code_by (Flag was_true) = found_code was_true
code_by (Rejected error) = code_of error
code_by (Unparsed fault) = UNPARSED
code_by _ = NOTHING

-- a setter that always succeeds
abbrev pub Succeeds : Answer → ℤ → Type 0
Succeeds answer code = (answer ≡ Done) × (code ≡ OK)

-- What C gets of an event that the agent returned. If there was none, C may get what the monitor reports.
abbrev pub GivesEvent : Option IceAgentEvent → Event → Event → ℤ → Type 0
GivesEvent None before after code = (silence : Option Silence) × ReturnsSilence silence before after code
GivesEvent (Some e) before after code = ReturnsOf (Some e) before after code

-- What C gets of what the agent returned. A call that succeeds or fails returns OK exactly if it succeeds.
abbrev pub Answers : Use → Answer → ℤ → Type 0
Answers (PollEvent before after) answer code = (given : Option IceAgentEvent) × (answer ≡ Happened given) × GivesEvent given before after code
Answers (PollTransmit before after known reported) answer code = (given : Option packets.Packet) × (answer ≡ Polled given)
Answers (PollTimeout before after) answer code = (deadline : Option ℕ) × (answer ≡ NextTimeout deadline)
Answers (FixTimes soon) answer code = (deadline : Option ℕ) × (answer ≡ NextTimeout deadline)
Answers (AddLocal c before after) answer code = Unit {0}
Answers (AddLocalLine line before after) answer code = Unit {0}
Answers (AddRemote line before after) answer code = Unit {0}
Answers (InvalidateLocal c) answer code = code ≡ code_by answer
Answers (Invalidate line) answer code = code ≡ code_by answer
Answers (HandlePacket now protocol source destination bytes) answer code = code ≡ code_by answer
Answers (SetLite lite) answer code = Succeeds answer code
Answers (SetRenomination enabled) answer code = Succeeds answer code
Answers (SetTieBreaker tie_breaker) answer code = Succeeds answer code
Answers (SetMaxPairs limit) answer code = Succeeds answer code
Answers (SetMaxDiscovered limit) answer code = Succeeds answer code
Answers (SetMaxCandidates limit) answer code = Succeeds answer code
Answers (SetTimingAdvance by) answer code = Succeeds answer code
Answers (SetInitialRto rto) answer code = Succeeds answer code
Answers (SetMaxRto rto) answer code = Succeeds answer code
Answers (SetLiteTimeout by) answer code = Succeeds answer code
Answers (SetMaxRetransmits limit) answer code = Succeeds answer code
Answers (SetPreference preference) answer code = Succeeds answer code
Answers (SkipPairIds number) answer code = Succeeds answer code
Answers _ answer code = (code ≡ code_by answer) × (is_done answer ≡ is_ok code)

-- The entry is that of C's call.
pub record IsOf (u : Used) (x : Logged Preference) : Type 0 where
  pub makes : Makes u.export x.call
  pub answers : Answers u.export x.entry.answer u.code

-- These make a transition of the agent whenever they return OK: what C sets, restarts, and pairs that are formed again.
abbrev pub counts : Use → Bool
counts Ask = false
counts (SetSilence n) = false
counts (AddLocal c before after) = false
counts (AddLocalLine line before after) = false
counts (AddRemote line before after) = false
counts (InvalidateLocal c) = false
counts (Invalidate line) = false
counts (HandlePacket now protocol source destination bytes) = false
counts (PollTransmit before after known reported) = false
counts (PollTimeout before after) = false
counts (SendFailed protocol source destination reason) = false
counts _ = true

-- C's call was none of the agent: it only reads, or it was rejected before the agent was called, or the packet waited.
abbrev pub IsNone : Used → Type 0
IsNone u = counts u.export ≡ true → is_ok u.code ≡ false

-- ---- all calls

-- a log, and an entry for each of these setters, in their order
abbrev pub setters_onto : List (Call Preference) → List (Logged Preference) → List (Logged Preference)
setters_onto [] log = log
setters_onto (call ∷ more) log = setters_onto more (record { number = length log; call = call; entry = quiet Done } ∷ log)

-- All settings at once are the setters of their fields, one after another.
abbrev pub settings_onto : Settings → List (Logged Preference) → List (Logged Preference)
settings_onto settings log = setters_onto (setters_of settings) log

-- The call adds its entry to the log, or those of the settings that it sets.
abbrev pub AddsTo : List (Logged Preference) → Used → List (Logged Preference) → Type 0
AddsTo before u log =
    ((x : Logged Preference) × (log ≡ x ∷ before) × IsOf u x)
    ⊎ ((settings : AgentSettings) × (u.export ≡ SetSettings settings) × (is_ok u.code ≡ true) × (log ≡ settings_onto (settings_of settings) before))

-- The log has the entries of C's calls, in their order, after those of the settings with which `is_ice_agent_new` begins.
abbrev pub IsLogOf : List Used → List (Logged Preference) → Type 0
IsLogOf [] log = log ≡ settings_onto modern_settings []
IsLogOf (u ∷ before) log = (IsNone u × IsLogOf before log) ⊎ ((rest : List (Logged Preference)) × AddsTo rest u log × IsLogOf before rest)

-- the agent that `is_ice_agent_new` makes, before its settings
abbrev pub newborn : IceCreds → ℕ → Held
newborn creds tie_breaker = fresh (record {}) creds tie_breaker

-- C made the agent, then made these calls, newest first, and holds it in this state. The agent's log of them is this one.
pub record IsUsed (uses : List Used) (log : List (Logged Preference)) (held : HeldRecord) : Type 0 where
  pub creds : IceCreds
  pub tie_breaker : ℕ
  pub logs : IsLogOf uses log
  pub run : SharedRun mac_of answers (newborn creds tie_breaker) log held.agent

-- The theorem: C's calls on an agent are an execution of it, whatever C passes.
abbrev pub SessionsAreRuns : Type 0
SessionsAreRuns =
    (creds : IceCreds) (tie_breaker : ℕ) (uses : List Used) (held : HeldRecord) → Session (fresh_held creds tie_breaker) uses held
    → (log : List (Logged Preference)) × (used : IsUsed uses log held) × (used.creds ≡ creds) × (used.tie_breaker ≡ tie_breaker)

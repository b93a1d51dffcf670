-- What C calls on a slot that holds an agent: one case for each call that may change it, with what C passes and what is written for C. The
-- contract of each export of `is_c` is its case of `Does`, or that case `Followed` by `FixTimes`: so a call of C is one use or two.
use Rattle.std.specs.Prelude.{◌≡◌, ℕ, ◌==◌, ◌&&◌, Bool, List, Some, MatchBool, ℤ}
use Rattle.is_proto.specs.Hmac.{hmac_sha1}
use Rattle.is_proto.specs.declared.error.IceError.TheVariants.{LiteStaysControlled}
use Rattle.is_rules.specs.Restarting.{Recreates}
use Rattle.is_rules.specs.Roles.{keeps_role}
use Rattle.is_rules.specs.Credentials.{SetsLocal, SetsRemote}
use Rattle.is_rules.specs.Settings.{controlling_set, SetsMtu, with_rtos, with_retransmits, with_lite_timeout, numbers_skipped}
use Rattle.is_c_calls.specs.declared.address.Address.{Address}
use Rattle.is_c_calls.specs.declared.agent_settings.AgentSettings.{AgentSettings}
use Rattle.is_c_calls.specs.declared.candidate.LocalCandidate.{LocalCandidate}
use Rattle.is_c_calls.specs.declared.events.Event.{Event}
use Rattle.is_c_calls.specs.declared.packets.Packet.{Packet}
use Rattle.is_c_calls.specs.declared.preference.Preference.{Preference}
use Rattle.is_c_calls.specs.Adding.{AddsGiven, AddsLocalRead, AddsRead}
use Rattle.is_c_calls.specs.AgentSettings.{SetsSettings}
use Rattle.is_c_calls.specs.Codes.{BAD_LIMIT, code_of, done_code, found_code}
use Rattle.is_c_calls.specs.Credentials.{CallsWith}
use Rattle.is_c_calls.specs.Deadlines.{FixesTimes}
use Rattle.is_c_calls.specs.Events.{ReturnsEvent}
use Rattle.is_c_calls.specs.Given.{CallsGiven, CallsRead, Discards}
use Rattle.is_c_calls.specs.Held.{HeldRecord, AgentBecomes, Calls, Rejects}
use Rattle.is_c_calls.specs.Limits.{limit_of}
use Rattle.is_c_calls.specs.Monitoring.{SetsSilence, NotesFailure}
use Rattle.is_c_calls.specs.Packets.{Mac, packet_path, HandlesDatagram, TimesOutBy, ReturnsTimeout, RestartsWith, Gives}

pub data Use : Type 0 where
  -- any of the calls that only read the agent
  Ask : Use
  -- settings; each of the three calls for preferences sets one
  SetControlling : Bool → Use
  SetLite : Bool → Use
  SetRenomination : Bool → Use
  SetTieBreaker : ℕ → Use
  SetMaxPairs : ℕ → Use
  SetMaxDiscovered : ℕ → Use
  SetMaxCandidates : ℕ → Use
  SetTimingAdvance : ℕ → Use
  SetInitialRto : ℕ → Use
  SetMaxRto : ℕ → Use
  SetLiteTimeout : ℕ → Use
  SetMaxRetransmits : ℕ → Use
  SetMtu : ℕ → ℕ → Use
  SetPreference : Preference → Use
  SetSettings : AgentSettings → Use
  SkipPairIds : ℕ → Use
  SetSilence : ℕ → Use
  SetLocalCredentials : (ufrag pass : List ℕ) → Use
  SetRemoteCredentials : (ufrag pass : List ℕ) → Use
  -- candidates; the index before and after
  AddLocal : LocalCandidate → ℕ → ℕ → Use
  AddLocalLine : List ℕ → ℕ → ℕ → Use
  AddRemote : List ℕ → ℕ → ℕ → Use
  InvalidateLocal : LocalCandidate → Use
  Invalidate : List ℕ → Use
  Restart : (ufrag pass : List ℕ) → Bool → Use
  RecreatePairs : Use
  -- packets, timeouts and polls; what is written, before and after
  HandlePacket : (now protocol : ℕ) → (source destination : Address) → List ℕ → Use
  HandleTimeout : ℕ → List ℕ → Use
  PollTransmit : (before after : List ℕ) → (known reported : Packet) → Use
  PollTimeout : ℕ → ℕ → Use
  PollEvent : Event → Event → Use
  -- a packet that C could not send, and the reason
  SendFailed : (protocol : ℕ) → (source destination : Address) → (reason : ℕ) → Use
  -- what follows another call, and is no call of its own: soon, or not
  FixTimes : Bool → Use

-- an agent of C signs with HMAC-SHA1
abbrev pub mac_of : Mac
mac_of provider key text = hmac_sha1 key text

-- The call leads from the first state of what the slot holds to the second, and returns this code.
abbrev pub Does : Use → HeldRecord → ℤ → HeldRecord → Type 0
Does Ask old code new = new ≡ old
Does (SetControlling role) old code new =
    MatchBool (keeps_role old.agent && role) (Rejects (code_of LiteStaysControlled) old code new) (AgentBecomes (controlling_set role) old code new)
Does (SetLite lite) old code new = AgentBecomes (λ a. record a { lite = lite }) old code new
Does (SetRenomination enabled) old code new = AgentBecomes (λ a. record a { renominates = enabled }) old code new
Does (SetTieBreaker tie_breaker) old code new = AgentBecomes (λ a. record a { tie_breaker = tie_breaker }) old code new
Does (SetMaxPairs limit) old code new = AgentBecomes (λ a. record a { max_pairs = limit }) old code new
Does (SetMaxDiscovered limit) old code new = AgentBecomes (λ a. record a { max_discovered = limit_of limit }) old code new
Does (SetMaxCandidates limit) old code new = AgentBecomes (λ a. record a { max_candidates = limit_of limit }) old code new
Does (SetTimingAdvance by) old code new = AgentBecomes (λ a. record a { timing_advance = by }) old code new
Does (SetInitialRto rto) old code new = AgentBecomes (λ a. with_rtos rto a.timing.max_rto.0 a) old code new
Does (SetMaxRto rto) old code new = AgentBecomes (λ a. with_rtos a.timing.initial_rto.0 rto a) old code new
Does (SetLiteTimeout by) old code new = AgentBecomes (with_lite_timeout by) old code new
Does (SetMaxRetransmits limit) old code new =
    MatchBool (limit == 0) (Rejects BAD_LIMIT old code new) (AgentBecomes (with_retransmits limit) old code new)
Does (SetMtu mtu warn) old code new = Calls (λ a r b. SetsMtu a mtu warn r b) done_code old code new
Does (SetPreference preference) old code new = AgentBecomes (λ a. record a { preference = Some preference }) old code new
Does (SetSettings settings) old code new = SetsSettings settings old code new
Does (SkipPairIds number) old code new = AgentBecomes (numbers_skipped number) old code new
Does (SetSilence n) old code new = SetsSilence n old code new
Does (SetLocalCredentials ufrag pass) old code new = CallsWith SetsLocal ufrag pass old code new
Does (SetRemoteCredentials ufrag pass) old code new = CallsWith SetsRemote ufrag pass old code new
Does (AddLocal c before after) old code new = AddsGiven c before after old code new
Does (AddLocalLine line before after) old code new = AddsLocalRead line before after old code new
Does (AddRemote line before after) old code new = AddsRead line before after old code new
Does (InvalidateLocal c) old code new = CallsGiven Discards found_code c old code new
Does (Invalidate line) old code new = CallsRead Discards found_code line old code new
Does (Restart ufrag pass keep) old code new = RestartsWith keep ufrag pass old code new
Does RecreatePairs old code new = Calls (λ a r b. Recreates a r b) done_code old code new
Does (HandlePacket now protocol source destination bytes) old code new =
    HandlesDatagram mac_of now (packet_path protocol source destination) bytes old code new
Does (HandleTimeout now random) old code new = TimesOutBy mac_of now random old code new
Does (PollTransmit before after known reported) old code new = Gives before after known reported old code new
Does (PollTimeout before after) old code new = ReturnsTimeout before after old code new
Does (PollEvent before after) old code new = ReturnsEvent before after old code new
Does (SendFailed protocol source destination reason) old code new =
    NotesFailure (packet_path protocol source destination) reason old code new
Does (FixTimes soon) old code new = FixesTimes soon old code new

-- Calls, results and log entries as specifications see them: without the capacity of vectors, and with the path of a packet as
-- one value.
use Rattle.std.specs.Prelude.{option_map}
use Rattle.std.specs.Range.{range_inclusive_start, range_inclusive_end}
use Rattle.is_proto.specs.Packets.{packet_of}
use Rattle.is_rules.specs.Steps as agent
use Rattle.is.specs.declared.calls.AgentCall.{AgentCall}
use Rattle.is.specs.declared.calls.AgentCall.TheVariants.{SetMtu, SetControlTieBreaker, SetMaxCandidatePairs, SetMaxCandidates, SetMaxDiscovered, SetIceLite, SetRenomination, SetConsent, SetProfile}
use Rattle.is.specs.declared.calls.AgentCall.TheVariants.{SetTimingAdvance, SetInitialStunRto, SetMaxStunRto, SetMaxStunRetransmits, SetLiteTimeout, SetLocalPreference}
use Rattle.is.specs.declared.calls.AgentCall.TheVariants.{SetControlling, SetLocalCredentials, SetRemoteCredentials, SkipPairIds}
use Rattle.is.specs.declared.calls.AgentCall.TheVariants.{AddLocalCandidate, AddRemoteCandidate, InvalidateCandidate, RestartIce}
use Rattle.is.specs.declared.calls.AgentCall.TheVariants.{RecreateCandidatePairs, Packet, HandleTimeout, PollTransmit, PollTimeout}
use Rattle.is.specs.declared.calls.AgentCall.TheVariants.{PollEvent}
use Rattle.is.specs.declared.calls.Answer.{Answer}
use Rattle.is.specs.declared.calls.Answer.TheVariants.{Done, Added, NotAdded, Flag, Transmit, Event, Wake, Unparsed, Refused, NotCalled}
use Rattle.is.specs.declared.calls.Answer.TheVariants.{NotInWorld, NoSuchPacket}
use Rattle.is.specs.declared.calls.Entry.{Entry}

abbrev pub call_view : {P : Type 0} → AgentCall P → agent.Call P
call_view (SetMtu mtu) = agent.SetMtu (range_inclusive_start mtu) (range_inclusive_end mtu)
call_view (SetControlTieBreaker tie_breaker) = agent.SetControlTieBreaker tie_breaker
call_view (SetMaxCandidatePairs limit) = agent.SetMaxCandidatePairs limit
call_view (SetMaxDiscovered limit) = agent.SetMaxDiscovered limit
call_view (SetMaxCandidates limit) = agent.SetMaxCandidates limit
call_view (SetIceLite lite) = agent.SetIceLite lite
call_view (SetRenomination renominates) = agent.SetRenomination renominates
call_view (SetProfile profile) = agent.SetProfile profile
call_view (SetConsent consent) = agent.SetConsent consent
call_view (SetTimingAdvance advance) = agent.SetTimingAdvance advance.0
call_view (SetInitialStunRto rto) = agent.SetInitialStunRto rto.0
call_view (SetMaxStunRto rto) = agent.SetMaxStunRto rto.0
call_view (SetMaxStunRetransmits limit) = agent.SetMaxStunRetransmits limit
call_view (SetLiteTimeout timeout) = agent.SetLiteTimeout timeout.0
call_view (SetLocalPreference object) = agent.SetLocalPreference object
call_view (SetControlling controlling) = agent.SetControlling controlling
call_view (SetLocalCredentials creds) = agent.SetLocalCredentials creds
call_view (SetRemoteCredentials creds) = agent.SetRemoteCredentials creds
call_view (SkipPairIds number) = agent.SkipPairIds number
call_view (AddLocalCandidate c) = agent.AddLocalCandidate c
call_view (AddRemoteCandidate c) = agent.AddRemoteCandidate c
call_view (InvalidateCandidate c) = agent.InvalidateCandidate c
call_view (RestartIce creds keep) = agent.RestartIce creds keep
call_view RecreateCandidatePairs = agent.RecreateCandidatePairs
call_view (Packet now proto source destination bytes) =
    agent.ReceivePacket now.0 (record { proto = proto; source = source; destination = destination }) bytes.items
call_view (HandleTimeout now) = agent.HandleTimeout now.0
call_view PollTransmit = agent.PollTransmit
call_view PollTimeout = agent.PollTimeout
call_view PollEvent = agent.PollEvent

abbrev pub answer_view : Answer → agent.Answer
answer_view Done = agent.Done
answer_view Added = agent.Added
answer_view NotAdded = agent.NotAdded
answer_view (Flag flag) = agent.Flag flag
answer_view (Transmit given) = agent.Polled (option_map packet_of given)
answer_view (Event given) = agent.Happened given
answer_view (Wake deadline) = agent.NextTimeout (option_map (λ at. at.0) deadline)
answer_view (Unparsed fault) = agent.Unparsed fault
answer_view (Refused error) = agent.Rejected error
answer_view NotCalled = agent.NotCalled
answer_view NotInWorld = agent.NotInWorld
answer_view NoSuchPacket = agent.NoSuchPacket

abbrev pub entry_view : Entry → agent.Entry
entry_view e = record { answer = answer_view e.answer; emitted = record { issued = e.issued; selected_paths = e.announced } }

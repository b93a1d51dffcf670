-- The names that most proofs of this crate cite, passed on from one place. Declares nothing.
pub use Rattle.std.proofs.Common.{[], ◌&&◌, ◌*◌, ◌++◌, ◌+◌, ◌-◌, ◌<◌, ◌==◌, ◌||◌, ◌∙◌, ◌∷◌, ◌≡◌, ◌≤◌, ◌⊎◌, ap, append-nil, arith, Bool}
pub use Rattle.std.proofs.Common.{codes, drop, Err, false, if◌then◌else◌, inl, inr, length, List, map, MatchBool, MatchOption, nat_le}
pub use Rattle.std.proofs.Common.{nat_lt, None, not, Ok, Option, option_map, pos, refl, replicate, Result, Some, subst, suc, sym, take}
pub use Rattle.std.proofs.Common.{true, zero, ℕ, ℤ}
pub use Rattle.std.proofs.Math.Seq.{take-append_seam}
pub use Rattle.std.proofs.lemmas.Bool.Decides.{nat_tests}
pub use Rattle.std.specs.Option.{option_and_then, option_map_or, option_or}
pub use Rattle.std.specs.declared.net.socket_addr.SocketAddr.{SocketAddr}
unfoldable pub use Rattle.rand_core.specs.Steps.{stream_of}
pub use Rattle.rand_core.specs.Stream.{Stream}
unfoldable pub use Rattle.rand_core.specs.Stream.{fill_bytes}
pub use Rattle.is_proto.specs.Lists.{Has, same}
pub use Rattle.is_proto.specs.Packets.{Packet}
pub use Rattle.is_proto.specs.declared.error.IceError.{IceError}
pub use Rattle.is_proto.specs.declared.hmac_provider.DefaultSha1HmacProvider.{DefaultSha1HmacProvider}
pub use Rattle.is_proto.specs.declared.proto.Protocol.{Protocol}
pub use Rattle.is_stun.specs.Message.{AttributesRecord, Message}
pub use Rattle.is_stun.specs.Reading.{Reads}
pub use Rattle.is_stun.specs.Timing.{consent_of, is_modern, is_modern_profile}
unfoldable pub use Rattle.is_stun.specs.Timing.{delay_millis, timeout_of}
pub use Rattle.is_stun.specs.declared.header.Class.{Class}
pub use Rattle.is_candidate.specs.Candidates.{candidate_at, CandidateRecord, IsBased}
pub use Rattle.is_pair.specs.Pairs.{is_nominated, is_valid, PairRecord}
pub use Rattle.is_rules.specs.Agent.{AgentRecord}
pub use Rattle.is_rules.specs.Answers.{HandlesFailure, is_reverse, is_role_conflict}
pub use Rattle.is_rules.specs.Brought.{Brings, Continues, IsBrought, IsKept, IsRoleSet, IsServing}
pub use Rattle.is_rules.specs.Effects.{clears, last_of, lite_set_by, PathEffect, PathTheorem, remote_after, remote_set_by, tie_set_by}
pub use Rattle.is_rules.specs.Effects.{TradeEffect, TradeTheorem}
pub use Rattle.is_rules.specs.Emitted.{issued_as, nothing_emitted, reversed}
pub use Rattle.is_rules.specs.Issuing.{IsIssued, IsQueued, QueuesPackets, Says, via_out}
pub use Rattle.is_rules.specs.Nominating.{followed, is_eligible, persists_at, remains, selection_of}
pub use Rattle.is_rules.specs.Points.{IsNominationPoint, IsTopSelected}
pub use Rattle.is_rules.specs.Polls.{is_idle, is_waiting, IsPolled, NextTimeoutFrom}
pub use Rattle.is_rules.specs.Request.{request_in, RequestRecord, rival_in}
pub use Rattle.is_rules.specs.Roles.{conflict_by, conflict_of, keeps_role, switched}
pub use Rattle.is_rules.specs.Sending.{path_of}
pub use Rattle.is_rules.specs.Settings.{controlling_set, modern_settings, numbers_skipped, with_lite_timeout, with_retransmits, with_rtos}
pub use Rattle.is_rules.specs.Settings.{with_settings}
pub use Rattle.is_rules.specs.Sound.{FreshIsSound, GivesBased, IsSound}
pub use Rattle.is_rules.specs.States.{is_nominated_and_valid}
pub use Rattle.is_rules.specs.Steps.{added, Answer, answer_by, Becomes, Call, Done, done, Entry, Flag, Happened, is_done, is_rejection}
pub use Rattle.is_rules.specs.Steps.{MaySelect, NextTimeout, Polled, quiet, Receives, Step}
pub use Rattle.is_rules.specs.Timeouts.{TimesOut}
pub use Rattle.is_rules.specs.declared.credentials.IceCreds.{IceCreds}
pub use Rattle.is_rules.specs.declared.emitted.Emitted.{Emitted}
pub use Rattle.is_rules.specs.declared.emitted.Issued.{Issued}
pub use Rattle.is_rules.specs.declared.emitted.Path.{Path}
pub use Rattle.is_rules.specs.declared.event.IceAgentEvent.{IceAgentEvent}
pub use Rattle.is_rules.specs.declared.roles.Conflict.TheVariants.{Absent, Send487, SwitchRole}
pub use Rattle.is_rules.specs.declared.settings.Settings.{Settings}
pub use Rattle.is_theorems.proofs.ExecutionLogs.SegmentsAsExecutions.{calls_onto, onto_is}
pub use Rattle.is_theorems.proofs.ExecutionLogs.SharedLogTheorems.{holds, numbering-in, numbering_set}
pub use Rattle.is_theorems.specs.Asked.{IsOnlyPair, UsesAddressesOf}
pub use Rattle.is_theorems.specs.AskedExecutions.{selected_along}
pub use Rattle.is_theorems.specs.Asking.{AcceptsNomination}
pub use Rattle.is_theorems.specs.Exchange.{Execution}
pub use Rattle.is_theorems.specs.Logs.{Answered, AnswersAt, AsksAt, clears_at, has_numbers, IsAnsweredBy, IsSent, last_selected, Logged}
pub use Rattle.is_theorems.specs.Logs.{NeverLite, numbering_of, numbering_set_by, remote_of}
pub use Rattle.is_theorems.specs.Polled.{AskedSince, IsControlledSinceRestart, IsModernAtRestart, NominatedSince, removes_selections}
pub use Rattle.is_theorems.specs.Polled.{SelectedSince, SelectionsAreNominatedSince, WaitingAreAnswered, WaitingAreNominatedSince}
pub use Rattle.is_theorems.specs.Reporting.{QueuesTheorem, selecting}
pub use Rattle.is_theorems.specs.RoleView.{sets_role}
pub use Rattle.is_theorems.specs.Settings.{all_settings_of, AllAreSetInTurn, setters_of, settings_after, settings_along, SettingsAreSet}
pub use Rattle.is_theorems.specs.Settings.{SettingsRecord}
pub use Rattle.is_theorems.specs.Settled.{IsAgreed, IsModernAlong, StatesAgree}
pub use Rattle.is_theorems.specs.Shared.{BeforeEach, IsControlledSince, IsNewlyCreated, SelectionsAreAnswered, SelectionsAreTop, SharedRun}
pub use Rattle.is_agent.specs.Added.{AddsLocalListed, AddsRemoteListed}
pub use Rattle.is_monitor.specs.Monitors.{next_silence}
pub use Rattle.is_monitor.specs.declared.monitor.Monitor.{Monitor}
pub use Rattle.is_c_calls.specs.Adding.{AddsMade}
pub use Rattle.is_c_calls.specs.Addresses.{protocol_of, socket_of}
pub use Rattle.is_c_calls.specs.AgentSettings.{profile_of, settings_of}
pub use Rattle.is_c_calls.specs.Candidates.{Builds, Constructs, is_over_tcp, Made, MakesCandidate, ReadsBytes, role_of, route_for}
pub use Rattle.is_c_calls.specs.Clock.{agent_time}
pub use Rattle.is_c_calls.specs.Codes.{BAD_ADDRESS, BAD_LIMIT, code_of, done_code, flag_code, found_code, NOT_UTF8, OK}
pub use Rattle.is_c_calls.specs.Codes.{TOO_FEW_RANDOM_BYTES}
pub use Rattle.is_c_calls.specs.Events.{IsEvent, ReturnsFirst}
pub use Rattle.is_c_calls.specs.Following.{Followed, Follows}
pub use Rattle.is_c_calls.specs.Given.{CallsMade, Discards}
pub use Rattle.is_c_calls.specs.Held.{AgentBecomes, Held, HeldRecord, KeepsRest, Rejects}
pub use Rattle.is_c_calls.specs.Making.{fresh_held, MakesAt, MakesHeld}
pub use Rattle.is_c_calls.specs.Monitoring.{NotesFailure, ReturnsSilence}
pub use Rattle.is_c_calls.specs.Packets.{AcceptsOn, GivesOf, HandlesDatagram, IsReported, packet_path, TakesNext}
pub use Rattle.is_c_calls.specs.Preferences.{answers}
pub use Rattle.is_c_calls.specs.Random.{given_steps}
pub use Rattle.is_c_calls.specs.Sessions.{is_ok, Session, Used}
pub use Rattle.is_c_calls.specs.Uses.{AddLocal, AddLocalLine, AddRemote, Ask, Does, FixTimes, HandlePacket, HandleTimeout, Invalidate}
pub use Rattle.is_c_calls.specs.Uses.{InvalidateLocal, mac_of, PollEvent, PollTimeout, PollTransmit, RecreatePairs, Restart, SendFailed}
pub use Rattle.is_c_calls.specs.Uses.{SetControlling, SetInitialRto, SetLite, SetLiteTimeout, SetLocalCredentials, SetMaxCandidates}
pub use Rattle.is_c_calls.specs.Uses.{SetMaxDiscovered, SetMaxPairs, SetMaxRetransmits, SetMaxRto, SetMtu, SetPreference}
pub use Rattle.is_c_calls.specs.Uses.{SetRemoteCredentials, SetRenomination, SetSettings, SetSilence, SetTieBreaker, SetTimingAdvance}
pub use Rattle.is_c_calls.specs.Uses.{SkipPairIds, Use}
pub use Rattle.is_c_calls.specs.declared.agent_settings.AgentSettings.{AgentSettings}
pub use Rattle.is_c_calls.specs.declared.events.Event.{Event}
pub use Rattle.is_c_calls.specs.declared.preference.Preference.{Preference}
pub use Rattle.is_c_theorems.specs.CallLogs.{AddsTo, Answers, code_by, counts, GivesEvent, IsLogOf, IsNone, IsOf, IsUsed, Makes, newborn}
pub use Rattle.is_c_theorems.specs.CallLogs.{SessionsAreRuns, setters_onto, settings_onto}
pub use Rattle.is_c_theorems.specs.Chosen.{EachKeeps, keeps_consent, keeps_limit, keeps_modern, sets, settings_by, SettingsAreThoseSet}
pub use Rattle.is_c_theorems.specs.Connecting.{AnsweredCheck, BothBecomeConnected, CheckIsServed, DeliveredAreAccepted, DeliveredCheck}
pub use Rattle.is_c_theorems.specs.Connecting.{Evaluates, HaveExchanged, is_error, IsConnected, IsInSlot, KeepsPairs, Leads}
pub use Rattle.is_c_theorems.specs.Connecting.{NominatedConnect, NominatingCheck, NominationsConnect, PassesPacket, ResponsesConnect}
pub use Rattle.is_c_theorems.specs.Connecting.{ReturnedReply, SendsCheck}
pub use Rattle.is_c_theorems.specs.Executions.{ConnectedAreAlive, ConnectedHavePath, DISCOVERED_LIMIT, EachQueuesOne, modern_consent}
pub use Rattle.is_c_theorems.specs.Executions.{PathsAreAnswered, PathsAreFirstChoice, PathsAreNominatedByPeer, StaysBounded}
pub use Rattle.is_c_theorems.specs.Seen.{Accepts, Gets, is_clear, is_restart, IsChecked, IsCheckIn, IsToPoll, peer_by, peer_of, restarts}
pub use Rattle.is_c_theorems.specs.Seen.{Selects, Since}
pub use Rattle.is_c_theorems.specs.TwoAgents.{A, AreCarried, B, Before, Begins, Gave, GivesAnswer, GivesCheck, GreaterKeepsRole}
pub use Rattle.is_c_theorems.specs.TwoAgents.{HaveFreshIds, id_of, IsFair, LesserSwitchesOnce, other, role_at, RolesStayOpposite}
pub use Rattle.is_c_theorems.specs.TwoAgents.{SelectedAreTraced, Sessions, Side, SideCall, TakesAnswer, TakesCheck}

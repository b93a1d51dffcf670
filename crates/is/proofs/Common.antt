-- The names that most proofs of this crate cite, passed on from one place. Declares nothing.
pub use Rattle.std.proofs.Common.{[], ◌&&◌, ◌*◌, ◌++◌, ◌+◌, ◌<◌, ◌||◌, ◌∙◌, ◌∷◌, ◌≡◌, ◌≤◌, ◌⊎◌, ap, append-nil, append_assoc, arith, Bool}
pub use Rattle.std.proofs.Common.{cond, count_by, Err, false, if◌then◌else◌, inl, inr, is_some, length, length-append, List, map, nat_le}
pub use Rattle.std.proofs.Common.{nat_lt, None, not, Ok, Option, option_map, refl, Result, Some, subst, suc, sym, true, zero, zero-add, ℕ}
pub use Rattle.std.proofs.lemmas.List.Sums.{sum_by-append, sum_by-cons}
pub use Rattle.std.proofs.lemmas.Option.{slice_get_read, slice_get_within}
pub use Rattle.std.specs.List.{AllByRecursion, list_any}
pub use Rattle.std.specs.Option.{option_map_or, option_or}
pub use Rattle.std.specs.Prelude.{◌==◌, ◌↔◌, ◌≢◌, IsTrue, MatchBool, slice_get, vec_capacity}
pub use Rattle.std.specs.Vec.Iter.{into_iter_items}
pub use Rattle.rand_core.specs.Stream.{Stream}
pub use Rattle.is_proto.specs.Lists.{Has, same}
pub use Rattle.is_proto.specs.Packets.{Packet}
pub use Rattle.is_proto.specs.declared.error.ParseFault.{ParseFault}
pub use Rattle.is_stun.specs.Message.{Message}
pub use Rattle.is_stun.specs.MessageView.{message_view}
pub use Rattle.is_stun.specs.Reading.{Reads}
unfoldable pub use Rattle.is_stun.specs.Reading.{fault_of, message_of}
pub use Rattle.is_stun.specs.Timing.{is_modern, is_modern_profile}
pub use Rattle.is_stun.specs.declared.header.Class.{Class}
pub use Rattle.is_stun.specs.declared.header.Class.TheVariants.{Failure, Success}
pub use Rattle.is_stun.specs.declared.timing.Profile.TheVariants.{Original}
pub use Rattle.is_stun.specs.declared.trans_id.TransId.{TransId}
pub use Rattle.is_candidate.specs.Addresses.{same_address}
pub use Rattle.is_candidate.specs.Candidates.{CandidateRecord}
pub use Rattle.is_pair.specs.Pairs.{is_valid, PairRecord}
pub use Rattle.is_rules.specs.Agent.{AgentRecord, fresh}
pub use Rattle.is_rules.specs.Answers.{is_reverse, is_role_conflict, keeps_check_on}
pub use Rattle.is_rules.specs.Brought.{Brings, IsAnswered, IsNominatedOn, IsRejectedBy, IsServedPastTests, IsServing, IsValidOn}
pub use Rattle.is_rules.specs.Effects.{clears, keeping_set_by, last_of, lite_set_by, PathEffect, PathTheorem}
pub use Rattle.is_rules.specs.Emitted.{issued_as, reversed, selected_only}
pub use Rattle.is_rules.specs.Issuing.{via_out}
pub use Rattle.is_rules.specs.Nominating.{followed, followed_by_number, IsChosen, numbers, selection_of}
pub use Rattle.is_rules.specs.Points.{HasSelected}
pub use Rattle.is_rules.specs.Polls.{IsPolled, PollsTransmit}
pub use Rattle.is_rules.specs.Queue.{request_at}
pub use Rattle.is_rules.specs.Request.{request_in, RequestRecord, rival_in}
pub use Rattle.is_rules.specs.Roles.{keeps_role}
pub use Rattle.is_rules.specs.Sending.{path_of}
pub use Rattle.is_rules.specs.Sound.{FreshIsSound, GivesBased, IsSound}
pub use Rattle.is_rules.specs.Steps.{AddLocalCandidate, AddRemoteCandidate, Answer, answer_by, Call, Done, Entry, Flag, HandleTimeout}
pub use Rattle.is_rules.specs.Steps.{Happened, InvalidateCandidate, NoSuchPacket, Polled, PollEvent, PollTimeout, PollTransmit, quiet}
pub use Rattle.is_rules.specs.Steps.{ReceivePacket, Receives, RecreateCandidatePairs, Rejected, RestartIce, SetConsent, SetControlling}
pub use Rattle.is_rules.specs.Steps.{SetControlTieBreaker, SetIceLite, SetInitialStunRto, SetLiteTimeout, SetLocalCredentials}
pub use Rattle.is_rules.specs.Steps.{SetLocalPreference, SetMaxCandidatePairs, SetMaxCandidates, SetMaxDiscovered, SetMaxStunRetransmits, SetMaxStunRto}
pub use Rattle.is_rules.specs.Steps.{SetMtu, SetProfile, SetRemoteCredentials, SetRenomination, SetTimingAdvance, SkipPairIds, Step}
pub use Rattle.is_rules.specs.declared.emitted.Emitted.{Emitted}
pub use Rattle.is_rules.specs.declared.emitted.Issued.{Issued}
pub use Rattle.is_rules.specs.declared.emitted.Path.{Path}
pub use Rattle.is_theorems.proofs.ExecutionLogs.PointsOfSegments.{deeper, later_point}
pub use Rattle.is_theorems.specs.Asked.{IsOnlyPair}
pub use Rattle.is_theorems.specs.AskedExecutions.{AcceptedNominationsAreSelected, AcceptsNominationAlong, AcceptsSuccessOn, Ends, EndsAlong}
pub use Rattle.is_theorems.specs.AskedExecutions.{IsAnsweredAlong, selected_along, SelectsAlong, SuccessesSelect}
pub use Rattle.is_theorems.specs.Asking.{AcceptsNomination, AreNominatedOn}
pub use Rattle.is_theorems.specs.Carried.{CarriedAsk, CarriedBack, CarriedCheck, CarriedResolve, CarriedSucceedLater, IsConflictCarried}
pub use Rattle.is_theorems.specs.Delivery.{Delivered, IsReachedBy, IsTaken, KnowEachOther, Sends, SentCheck}
pub use Rattle.is_theorems.specs.Exchange.{AreBetween, Execution}
pub use Rattle.is_theorems.specs.Executions.{AcceptsSuccess, ControlsAlong, ExecutionRound, ExecutionRounds, SelectsAmong}
pub use Rattle.is_theorems.specs.FirstChecks.{ExecutionsCheckFromDue, SufficeForDue, times_of}
pub use Rattle.is_theorems.specs.FirstTimeouts.{AreInRound, EndsAmong, ExecutionsReachFromDue, ExecutionsReachUnanswered, IsOpenRound}
pub use Rattle.is_theorems.specs.FirstTimeouts.{IsReached, RoundsSuffice, Suffices}
pub use Rattle.is_theorems.specs.Logs.{AskedBy, has_numbers, last_selected, Logged, NeverLite, NominatedByPeer, numbering_of}
pub use Rattle.is_theorems.specs.Logs.{numbering_set_by}
pub use Rattle.is_theorems.specs.Pending.{checks_on, is_check_on, IsValidBy, KeepsAlong}
pub use Rattle.is_theorems.specs.Progress.{Awaits, checks_for, IsUnanswered}
pub use Rattle.is_theorems.specs.Reached.{is_in_round, IsInLine, IsLasting, nominations_ahead, selects}
pub use Rattle.is_theorems.specs.ReachedExecutions.{IsPassed, PassRounds, selections_among}
pub use Rattle.is_theorems.specs.RenominatingExecutions.{AcceptsNominationLastAlong, AcceptsNominationOnlyAlong}
pub use Rattle.is_theorems.specs.RenominatingExecutions.{LastAcceptedNominationsAreLast, NominatedAreLast}
pub use Rattle.is_theorems.specs.RoleState.{Claims, Conveys, IsCarriedIn, IsNewRoleState, Kept, Mail, MeetsConflict, MeetsSuccess}
pub use Rattle.is_theorems.specs.RoleState.{RoleEffect, RoleEvent, RoleState, sends_487, Sent, switches_role}
pub use Rattle.is_theorems.specs.RoleView.{accepted_by, all_kept, kept_as, mail_in, mail_of, mail_read, mail_unless, packet_path}
pub use Rattle.is_theorems.specs.RoleView.{request_when, role_event_of, role_state_of, RoleTheorem, sent_as, served_by, sets_lite}
pub use Rattle.is_theorems.specs.RoleView.{sets_role, some_paths, when_accepted, when_done}
pub use Rattle.is_theorems.specs.Runs.{AtEach, EntriesArePoints, IsFresh, LastPathsAreTop, PathsAreAnswered, PathsAreNominatedByPeer, Point}
pub use Rattle.is_theorems.specs.Runs.{Run, run_to, shared_run}
pub use Rattle.is_theorems.specs.ServedSoon.{ExecutionsReachServed, IsOvertakenAmong, ServedExecutionsReach, ServedExecutionsReachInTime}
pub use Rattle.is_theorems.specs.ServedSoon.{SufficesForServed}
pub use Rattle.is_theorems.specs.Settings.{all_settings_of, settings_after, settings_along, SettingsAreSet, SettingsRecord}
pub use Rattle.is_theorems.specs.Shared.{BeforeEach, IsNewlyCreated, SharedRun}
pub use Rattle.is_agent.specs.View.{emitted_of, record_of}
pub use Rattle.is.specs.Accepted.{AcceptsOnPath, IsHandled, LeavesOut, PacketsAreHandled}
pub use Rattle.is.specs.AcceptedNominations.{AcceptedNominationsSelect, IsControlledSegment, MayEndIn, SelectsTop}
pub use Rattle.is.specs.AcceptedNominationsIn.{check_count, checks_of, HandedCheck, is_of, IsAskedOver, IsControlled, IsExchangedOver}
pub use Rattle.is.specs.AcceptedNominationsIn.{IsPlainTimeout, IsReturned, IsReturnedInTime, MayEndAt, Occurrence, occurrences_in}
pub use Rattle.is.specs.Connections.{Asks, AsksInRounds, BothConnect, HasRounds, IsAnsweredInRounds, RoundIsAnswered, selections_of}
pub use Rattle.is.specs.Connections.{ServedRoundsReach, SideRoundsReach, Succeeds}
pub use Rattle.is.specs.Deliveries.{Hands, MakesInRound, MakesPolls, SelectsPath}
pub use Rattle.is.specs.Marks.{IsFirst, IsFirstFrom, IsMarked, NoneMarked}
pub use Rattle.is.specs.Punctual.{ChecksBy, ChecksComeInTime, IsPrompt, IsPunctual, IsTimed}
pub use Rattle.is.specs.Renominations.{IsSelectedLast, KeepsSelected, LeadingPathIsSelected, NominatesNoOther, OnePathIsSelected}
pub use Rattle.is.specs.Selections.{all_of, AreEachPolled, AreKept, begins_modern, DeliveredRoundsSelect, IsAnsweredInTime, IsControlling}
pub use Rattle.is.specs.Selections.{IsControllingSegment, IsKept, MayEndInRounds, OvertakeIn, RoundChecks, ServedRoundsSuffice, SideRound}
pub use Rattle.is.specs.Selections.{SideRoundsSuffice, state_after, times_in}
pub use Rattle.is.specs.Sides.{acts, first_packet, only, own_at, own_log, polled_as, received_as}
pub use Rattle.is.specs.Traces.{ComesBack, HandlesMessage, HasAnswer, IsAt, IsFirstTrace, Issues, IsTrace, IsTraceOf, IsUncleared}
pub use Rattle.is.specs.Traces.{SelectedAreTraced, SelectsPathAt}
pub use Rattle.is.specs.Views.{answer_view, call_view, entry_view}
pub use Rattle.is.specs.World.{at, Deliver, Delivers, drawn_by, Event, Happens, in_flight_of, in_world, InFlightRecord, IsWorldLog, logged}
pub use Rattle.is.specs.World.{logged_as, LoggedEvent, moved_by, other, Outcome, outcome_of, Persists, plain, Poll, PolledInto, Polls, put}
pub use Rattle.is.specs.World.{read_unless, roles_of, source_of, sources, Stray, Streams, TakesTurn, world_of, WorldRecord, WorldRun}
pub use Rattle.is.specs.WorldRoles.{changes, ComparesTies, GreaterKeeps, HaveDistinctIds, IsFairWorld, IsNeverLite, IsNewWorld}
pub use Rattle.is.specs.WorldRoles.{LesserSwitchesOnce, Makes, Meets, role_at, role_in, RolesDifferOnceMet, StaysFull, StaysOriginal}
pub use Rattle.is.specs.declared.traces.Trace.{Trace}
pub use Rattle.is.specs.declared.world_events.Side.{Side}
pub use Rattle.is.specs.declared.world_events.Side.TheVariants.{A, B}
pub use Rattle.is.specs.declared.world_events.TwoAgentsEvent.{TwoAgentsEvent}
pub use Rattle.is.specs.declared.world_events.WorldEntry.{WorldEntry}

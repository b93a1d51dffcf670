-- The names that most proofs of this crate cite, passed on from one place. Declares nothing.
pub use Rattle.std.proofs.lemmas.Bool.{and_parts, cases_lt, not-false, or_cases}
pub use Rattle.std.proofs.lemmas.Bool.Decides.{nat_tests}
pub use Rattle.std.proofs.lemmas.List.{get_or-map, get_or_past, length-map, set_past}
pub use Rattle.std.specs.declared.net.socket_addr.SocketAddr.{SocketAddr}
pub use Rattle.is_proto.specs.declared.error.StunError.{StunError}
pub use Rattle.is_proto.specs.declared.proto.Instant.{Instant}
pub use Rattle.is_stun.specs.Message.{Integrity, Message}
pub use Rattle.is_stun.specs.declared.trans_id.TransId.{TransId}
pub use Rattle.is_turn.specs.Alternate.{alternate_in}
pub use Rattle.is_turn.specs.Client.{at_time, time_after}
pub use Rattle.is_turn.specs.Credentials.{Challenge, challenge_by, challenged, Credentials, forgotten, long_term_key, with_challenge, without_challenge}
pub use Rattle.is_turn.specs.Incoming.{channel_data, Datagram, datagram_of, malformed, peer_data, response, unasked, unparsed}
pub use Rattle.is_turn.specs.Leases.{ip_of, is_answered_by, is_channel_of, is_open, is_permission_of, is_reported, is_to_be_sent, lease_polled, plain, step_for, unused, used_at, waits_in}
pub use Rattle.is_turn.specs.Leases.{without_report}
pub use Rattle.is_turn.specs.Operations.{another, attempted, doubted, hinted, is_exhausted, new_operation, polled, sent_once_more, takes_challenge}
pub use Rattle.is_turn.specs.Outcome.{answered_by, answered_in, code_or_success, is_last_sent, is_unknown, key_in, lasts, on_alternate, on_challenge, on_code, on_success, outcome_by, outcome_or}
pub use Rattle.is_turn.specs.Outcome.{outcome_with, relays, seconds_or_none}
pub use Rattle.is_turn.specs.Places.{at_place, bound_channel, channel_peer, due_place, heard_at, used_in}
pub use Rattle.is_turn.specs.Receipts.{dropped, Receipt}
pub use Rattle.is_turn.specs.Receiving.{IsAnswered, IsReceived, IsReceivedAs, IsRespondedBy}
pub use Rattle.is_turn.specs.Relaying.{advanced_in, after_poll, after_route, client_packet, driven, kept_in as leases_in, kept_leases, lease_due, lease_packet_at, lease_packet_of, lease_polled_in}
pub use Rattle.is_turn.specs.Relaying.{lease_request, leases_after_event, leases_after_poll, next_client_time, packet_after, permits_peer, PollsTurn, reported, reported_at, route_of, routed}
pub use Rattle.is_turn.specs.Relaying.{routed_if, sending_for, session_after_event, step_at, TimesOut, TimesOutBy, with_media}
pub use Rattle.is_turn.specs.Session.{allocated_in, asking, changed_by, closed, closed_early, closed_in, due_or, extended, failed_in, has_failed, is_allocated, is_gone, is_new, is_ready, is_refreshed}
pub use Rattle.is_turn.specs.Session.{keep_alive_due, lease_failed, left, lost, lost_in, may_be_made, new_session, PACE, probed, refreshed_in, renewed, repeated_by, request_timing, retried, sending}
pub use Rattle.is_turn.specs.Session.{step_of, takes_permissions, tried_by, turn_closed, turn_lost, turn_started, unsent, with_renewal, with_request, without_pace}
pub use Rattle.is_turn.specs.Turn.{after_event, after_step, alive_or_nothing, challenge_taken, Follows, IsChallengedBy, kept_credentials, kept_in, key_now, OutcomeApplies, packet_or, packet_polled}
pub use Rattle.is_turn.specs.Turn.{PollsPacket, reported_by, request_or, with_another, with_doubt, with_hint}
pub use Rattle.is_turn.specs.Verdict.{code_of, is_challenge, is_code, is_malformed, IsSignedFor, verdict_of}
pub use Rattle.is_turn.specs.Worlds.{Call, close, handle_timeout, lose, permit, poll_event, poll_transmit, probe, receive, send, start}
pub use Rattle.is_turn.specs.declared.attempts.Attempt.{Attempt}
pub use Rattle.is_turn.specs.declared.lease.Lease.{Lease}
pub use Rattle.is_turn.specs.declared.operation.Operation.{Operation}
pub use Rattle.is_turn.specs.declared.requests.Request.{Request}
pub use Rattle.is_turn.specs.declared.requests.Request.TheVariants.{Allocate, Refresh}
pub use Rattle.is_turn.specs.declared.session.Allocation.{Allocation}
pub use Rattle.is_turn.specs.declared.session.Phase.{Phase}
pub use Rattle.is_turn.specs.declared.session.Session.{Session}
pub use Rattle.is_turn.specs.declared.timing.ClientTiming.{ClientTiming}
pub use Rattle.is_turn.specs.declared.verdict.Verdict.{Verdict}
pub use Rattle.rand_core.specs.Stream.{fill_bytes, Stream}
pub use Rattle.is_turn_progress.specs.Reaching.{ALLOCATING, IsAllocated, IsAllocateSuccess, IsAnswered as IsAnsweredRun, IsExpected, IsFirstChallenge, IsNewUser, IsOrdinary, IsReachedBy, IsRight}
pub use Rattle.is_turn_progress.specs.Reaching.{IsRightTo, IsStarted, Passes, waiting}
pub use Rattle.is_turn_progress.specs.Secrets.{AlwaysForgets, Forgets, IsForgotten, IsNewClient, keyless_attempt, keyless_challenge, keyless_lease, keyless_operation, keyless_session, LookAlike}
pub use Rattle.is_turn_progress.specs.Secrets.{password_of, SameMacs, without_secrets}
pub use Rattle.is_turn_progress.specs.States.{Effect, HasBecome, IsExecution, State}

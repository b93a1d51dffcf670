-- The names that most proofs of this crate cite, passed on from one place. Declares nothing.
pub use Rattle.std.proofs.lemmas.Bool.{and_parts, cases_eq, cases_lt, not-false, not_from_false, or_right}
pub use Rattle.std.proofs.lemmas.Bool.Decides.{nat_tests}
pub use Rattle.std.proofs.lemmas.List.{get_or-map, get_or-replicate, get_or-set_other, get_or-set_same, get_or_past, length-map, length-replicate, set_past}
pub use Rattle.std.specs.declared.net.socket_addr.SocketAddr.{SocketAddr}
pub use Rattle.is_proto.specs.Times.{later, MAX, SECOND}
pub use Rattle.is_proto.specs.declared.proto.Instant.{Instant}
pub use Rattle.is_stun.specs.Message.{Integrity, Message}
pub use Rattle.is_stun.specs.declared.trans_id.TransId.{TransId}
pub use Rattle.is_turn.specs.Alternate.{alternate_in}
pub use Rattle.is_turn.specs.Client.{at_time, time_after}
pub use Rattle.is_turn.specs.Credentials.{Credentials}
pub use Rattle.is_turn.specs.Incoming.{channel_data, Datagram, datagram_of, malformed, peer_data, response, unasked, unparsed}
pub use Rattle.is_turn.specs.LeaseResponses.{heard_data, heard_peer, IsLeaseAnswered, LeaseApplies, with_changed}
pub use Rattle.is_turn.specs.Leases.{advanced, asked_again, attempt_of, barred_at, changed, due_of, due_or_never, failed_at, ip_of, is_answered_by, is_barring, is_channel_of, is_due_by, is_due_in}
pub use Rattle.is_turn.specs.Leases.{is_free, is_held_back, is_idle, is_in_use, is_open, is_past, is_permission_of, is_reported, is_to_be_sent, lapsed, lasts_since, later_end, lease_attempted}
pub use Rattle.is_turn.specs.Leases.{lease_polled, lease_repeated, lease_step, lifetime_for, new_lease, plain, renewed, repeated_if, requested_for, retried_at, step_for, time_or_never, unused}
pub use Rattle.is_turn.specs.Leases.{used_at, with_operation, without_report}
pub use Rattle.is_turn.specs.Operations.{another, attempted, doubted, hinted, is_allowed, is_exhausted, polled, repeat_wait, sent_once_more, stale_count, takes_challenge}
pub use Rattle.is_turn.specs.Outcome.{answered_by, answered_in, attempt_answered, code_or_success, is_last_sent, is_unknown, key_in, lasts, on_alternate, on_challenge, on_code, on_success, or_success}
pub use Rattle.is_turn.specs.Outcome.{outcome_by, outcome_or, outcome_with, relays, seconds_or_none}
pub use Rattle.is_turn.specs.Places.{added_at, at_place, bound_channel, change_time, channel_added_at, channel_named_by, channel_peer, due_place, earliest_change, earliest_due, heard_at, heard_by}
pub use Rattle.is_turn.specs.Places.{named_in, permitted_by, used_in, with_channel}
pub use Rattle.is_turn.specs.Receipts.{Receipt}
pub use Rattle.is_turn.specs.Receiving.{IsReceivedAs, IsRespondedBy}
pub use Rattle.is_turn.specs.Relaying.{advanced_in, after_poll, after_route, client_packet, driven_by, is_idle_step, kept_in, kept_leases, lease_due, lease_packet_at, lease_packet_of, lease_polled_in}
pub use Rattle.is_turn.specs.Relaying.{lease_request, leases_after_event, leases_after_poll, next_client_time, packet_after, permits_peer, reported, reported_at, route_of, routed, routed_if}
pub use Rattle.is_turn.specs.Relaying.{sending_for, session_after_event, step_at, TimesOutBy, with_leases, with_media}
pub use Rattle.is_turn.specs.Session.{allocated_in, asking, changed_by, closed, closed_early, closed_in, due_or, extended, failed_in, has_failed, is_allocated, is_gone, is_new, is_ready}
pub use Rattle.is_turn.specs.Session.{is_redirected, is_refreshed, is_renewal_due, keep_alive_due, kept_alive, lease_failed, left, lifetime_of, lost, lost_in, may_be_made, may_permit, new_session}
pub use Rattle.is_turn.specs.Session.{PACE, probed, quiet_after, refreshed_in, renewal_of, request_timing, sending, step_of, time_or, tried_by, turn_started, unsent, with_renewal, with_request}
pub use Rattle.is_turn.specs.Session.{without_pace}
pub use Rattle.is_turn.specs.Turn.{after_event, after_step, alive_or_nothing, challenge_taken, Follows, key_now, OutcomeApplies, packet_due, packet_or, packet_polled, reported_by, request_or}
pub use Rattle.is_turn.specs.Turn.{with_another, with_doubt, with_hint}
pub use Rattle.is_turn.specs.Verdict.{code_of, is_challenge, is_code, is_malformed, IsSignedFor, verdict_of}
pub use Rattle.is_turn.specs.Worlds.{Acceptance, Call, close, Does, handle_timeout, IsBelievable, IsFresh, IsRun, lose, permit, poll_event, poll_transmit, probe, receive, send, start, World}
pub use Rattle.is_turn.specs.declared.attempts.Attempt.{Attempt}
pub use Rattle.is_turn.specs.declared.lease.Lease.{Lease}
pub use Rattle.is_turn.specs.declared.operation.Operation.{Operation}
pub use Rattle.is_turn.specs.declared.requests.Request.{Request}
pub use Rattle.is_turn.specs.declared.session.Phase.{Phase}
pub use Rattle.is_turn.specs.declared.session.Session.{Session}
pub use Rattle.is_turn.specs.declared.timing.ClientTiming.{ClientTiming}
pub use Rattle.is_turn.specs.declared.verdict.Verdict.{Verdict}
pub use Rattle.rand_core.specs.Stream.{fill_bytes, Stream}
pub use Rattle.is_turn_theorems.specs.LeaseLimits.{LEAD, lease_attempt_time, lease_margin, lease_renewal_time, LeaveForLeases, queue_time}
pub use Rattle.is_turn_theorems.specs.Leasing.{goes_first, is_given, is_in_line, IsInUse, IsLeaseAhead, IsLeaseInTime, IsLeaseKept, IsLeaseServed, IsLeaseTimely, IsLeaseTimelyFrom, IsPatient}
pub use Rattle.is_turn_theorems.specs.Leasing.{LeaseNeverLapses, LeaseServes, turns_after}
pub use Rattle.is_turn_theorems.specs.Limits.{attempt_time, lead, Leave, Limits, margin, patience, wait_at, waits}
pub use Rattle.is_turn_theorems.specs.Timely.{due_since, Entry, is_timeout, IsAhead, IsAnswered, IsInTime, IsKept, IsPrompt, IsSeldomStale, IsServed, IsStale, IsTimely, IsTimelyFrom, IsWithin}
pub use Rattle.is_turn_theorems.specs.Timely.{NothingLapses, Serves, timeout_of}

-- The names that most proofs of this crate cite, passed on from one place. Declares nothing.
pub use Rattle.std.proofs.Common.{[], ◌&&◌, ◌*◌, ◌++◌, ◌+◌, ◌<◌, ◌==◌, ◌||◌, ◌↔◌, ◌∙◌, ◌∷◌, ◌≡◌, ◌≤◌, ◌⊎◌, add-one, ap, arith, Bool}
pub use Rattle.std.proofs.Common.{bytes_eq, cond, drop, Err, false, fold, get_or, inl, inr, is_none, is_some, IsSome, IsTrue, length, List}
pub use Rattle.std.proofs.Common.{map, max, min, nat_lt, None, not, Ok, Option, position, refl, replicate, Result, rules, set, slice_set}
pub use Rattle.std.proofs.Common.{Some, subst, sym, take, true, vec_len, ℕ}
pub use Rattle.std.proofs.lemmas.Bool.{cases_eq, cases_lt}
pub use Rattle.std.proofs.lemmas.List.{get_or-map, get_or-replicate, get_or-set_other, get_or-set_same, get_or_past, length-map}
pub use Rattle.std.proofs.lemmas.List.{length-replicate, length-set, set_past}
pub use Rattle.std.specs.declared.net.socket_addr.SocketAddr.{SocketAddr}
pub use Rattle.rand_core.specs.Stream.{Stream}
unfoldable pub use Rattle.rand_core.specs.Stream.{fill_bytes}
pub use Rattle.is_proto.specs.Times.{later, MAX, SECOND}
pub use Rattle.is_proto.specs.declared.error.StunError.{StunError}
pub use Rattle.is_proto.specs.declared.proto.Instant.{Instant}
pub use Rattle.is_stun.specs.Message.{Message}
pub use Rattle.is_stun.specs.MessageView.{message_view}
pub use Rattle.is_stun.specs.declared.trans_id.TransId.{TransId}
pub use Rattle.is_turn.specs.AllRelays.{ChangesFirst, LosesAt, RequestsPermission}
pub use Rattle.is_turn.specs.Client.{at_time, time_after}
pub use Rattle.is_turn.specs.Credentials.{Challenge, challenge_by, challenged, Credentials, forgotten, with_challenge, without_challenge}
pub use Rattle.is_turn.specs.Incoming.{channel_data, Datagram, datagram_of, incoming_view, malformed, peer_data, response, unasked}
pub use Rattle.is_turn.specs.Incoming.{unparsed}
pub use Rattle.is_turn.specs.LeaseResponses.{heard_data, heard_peer, IsLeaseAnswered, LeaseApplies, with_changed}
pub use Rattle.is_turn.specs.Leases.{advanced, asked_again, barred_at, changed, due_of, failed_at, ip_of, is_answered_by, is_barring}
pub use Rattle.is_turn.specs.Leases.{is_channel_of, is_free, is_held_back, is_idle, is_open, is_past, is_permission_of, is_renewal_due}
pub use Rattle.is_turn.specs.Leases.{is_reported, lapsed, lasts_since, later_end, lease_attempted, lease_polled, lease_repeated}
pub use Rattle.is_turn.specs.Leases.{lifetime_for, named_at, new_lease, plain, renewed, repeated_if, request_for, requested_for, retried_at}
pub use Rattle.is_turn.specs.Leases.{unused, used_at, with_operation, without_report}
pub use Rattle.is_turn.specs.Numbers.{KeepsChannels, SameChannel}
pub use Rattle.is_turn.specs.Operations.{another, attempted, doubted, hinted, is_exhausted, polled, sent_once_more, takes_challenge}
pub use Rattle.is_turn.specs.Outcome.{answered_by, answered_in, answers_request, attempt_answered, code_or_success, id_in, is_last_sent}
pub use Rattle.is_turn.specs.Outcome.{is_unknown, key_answered, key_in, lasts, on_alternate, on_challenge, on_code, on_success, outcome_by}
pub use Rattle.is_turn.specs.Outcome.{outcome_for, outcome_or, outcome_with, relays, seconds_or_none}
pub use Rattle.is_turn.specs.Places.{added_at, at_place, change_time, channel_added_at, channel_named_by, channel_peer, heard, heard_at}
pub use Rattle.is_turn.specs.Places.{heard_by, named_in, permitted, permitted_by, used_in, with_channel}
pub use Rattle.is_turn.specs.Receipts.{dropped, own, Receipt, received_view}
pub use Rattle.is_turn.specs.Receiving.{Answers, AnswersLease, IsAnswered, IsGenuine, IsLeaseGenuine, IsReceivedAs, IsRedirection}
pub use Rattle.is_turn.specs.Receiving.{IsResponded, IsRespondedBy, IsWhole, KeepsPin, OnlyByGenuine, pin_in, pin_of, SameBelief}
pub use Rattle.is_turn.specs.Relaying.{advanced_in, after_poll, after_route, client_packet, driven, driven_by, kept_in, kept_leases}
pub use Rattle.is_turn.specs.Relaying.{lease_due, lease_polled_in, leases_after_event, leases_after_poll, permits_peer, reported}
pub use Rattle.is_turn.specs.Relaying.{reported_at, routed, routed_if, sending_for, session_after_event, step_at, TimesOutBy}
pub use Rattle.is_turn.specs.Session.{allocated_in, asking, changed_by, closed, closed_early, closed_in, extended, failed_in, freed}
pub use Rattle.is_turn.specs.Session.{has_failed, is_gone, is_new, is_ready, is_redirected, is_refreshed, lease_failed, left, lifetime_of}
pub use Rattle.is_turn.specs.Session.{lost, lost_in, may_be_made, may_permit, new_session, not_renewed, probed, refreshed_in, repeated_by}
pub use Rattle.is_turn.specs.Session.{request_timing, retried, sending, step_of, tried_by, turn_started, unsent, with_renewal, with_request}
pub use Rattle.is_turn.specs.Session.{without_pace}
pub use Rattle.is_turn.specs.Turn.{after_event, after_step, challenge_taken, Follows, key_now, known, OutcomeApplies, packet_polled}
pub use Rattle.is_turn.specs.Turn.{reported_by, with_another, with_doubt, with_hint}
pub use Rattle.is_turn.specs.Verdict.{code_of, is_challenge, is_code, is_malformed, IsSignedFor, verdict_of, verdict_with}
pub use Rattle.is_turn.specs.Worlds.{Acceptance, AllocationIsHeld, and_sent, Becomes, BeliefIsAlwaysTrue, BeliefIsTrue, Call, close, Does}
pub use Rattle.is_turn.specs.Worlds.{EndIsHeld, handle_timeout, Happens, id_of, IsBelievable, IsForAllocation, IsForLease, IsFresh, IsHeld}
pub use Rattle.is_turn.specs.Worlds.{IsHonest, IsNew, IsRun, lose, permit, poll_event, poll_transmit, probe, receive, send, Sent}
pub use Rattle.is_turn.specs.Worlds.{sent_after, start, stated_lifetime, WasAccepted, WasSent, World}
pub use Rattle.is_turn.specs.declared.attempts.Attempt.{Attempt}
pub use Rattle.is_turn.specs.declared.attempts.Attempts.{Attempts}
pub use Rattle.is_turn.specs.declared.lease.Lease.{Lease}
pub use Rattle.is_turn.specs.declared.operation.Operation.{Operation}
pub use Rattle.is_turn.specs.declared.outcome.Outcome.{Outcome}
pub use Rattle.is_turn.specs.declared.outcome.Outcome.TheVariants.{Allocated, Challenged, Doubted, Dropped, Failed, Hinted, Lasting}
pub use Rattle.is_turn.specs.declared.outcome.Outcome.TheVariants.{Redirected, Refreshed}
pub use Rattle.is_turn.specs.declared.outcome.Reason.{Reason}
pub use Rattle.is_turn.specs.declared.relaying.Route.{Route}
pub use Rattle.is_turn.specs.declared.requests.Request.{Request}
pub use Rattle.is_turn.specs.declared.requests.Request.TheVariants.{Refresh}
pub use Rattle.is_turn.specs.declared.session.Phase.{Phase}
pub use Rattle.is_turn.specs.declared.session.Session.{Session}
pub use Rattle.is_turn.specs.declared.session.Step.{Step}
pub use Rattle.is_turn.specs.declared.timing.ClientTiming.{ClientTiming}
pub use Rattle.is_turn.specs.declared.turn.Packet.{Packet}
pub use Rattle.is_turn.specs.declared.verdict.Verdict.{Verdict}

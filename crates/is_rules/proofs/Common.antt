-- The names that most proofs of this crate cite, passed on from one place. Declares nothing.
pub use Rattle.std.proofs.Common.{[], ◌%◌, ◌&&◌, ◌*◌, ◌++◌, ◌+◌, ◌-◌, ◌<◌, ◌==◌, ◌^◌, ◌||◌, ◌∙◌, ◌∷◌, ◌≡◌, ◌≤◌, ◌⊎◌, All, ap, append_assoc}
pub use Rattle.std.proofs.Common.{arith, below_more, Bool, bytes_eq, cond, count_by, drop, Err, false, filter, find, fold, get_or, IfOk}
pub use Rattle.std.proofs.Common.{IfSome, if◌then◌else◌, inl, inr, is_some, IsSomeAnd, length, length-append, List, map, max, min, nat_le}
pub use Rattle.std.proofs.Common.{nat_lt, None, not, Ok, Option, refl, Result, rules, slice_index, Some, subst, suc, sym, take, true}
pub use Rattle.std.proofs.Common.{unwrap_or, vec_capacity, zero, ℕ}
pub use Rattle.std.proofs.lemmas.Bool.{eq-eqb, eqb-true, false≢true}
pub use Rattle.std.proofs.lemmas.Bool.Decides.{nat_tests}
pub use Rattle.std.proofs.lemmas.Grind.{common_steps, flat_map-append}
pub use Rattle.std.proofs.lemmas.List.{drop-map, drop_all, drop_more, get_or-set_other, get_or-set_same, length-map, length-set, map-append}
pub use Rattle.std.proofs.lemmas.List.Elements.{All-map, filter-append}
pub use Rattle.std.proofs.lemmas.List.Sums.{count_by-le-length, length-filter, sum_by-cons}
pub use Rattle.std.proofs.lemmas.Slice.Eq.{bytes_eq-Decides}
pub use Rattle.std.specs.List.{flat_map, list_all, list_any, range_with_len}
pub use Rattle.std.specs.Option.{option_and_then, option_copied, option_map_or, option_or}
pub use Rattle.std.specs.Prelude.{MatchBool, MatchOption, slice_index_or, slice_set}
pub use Rattle.std.specs.declared.net.socket_addr.SocketAddr.{SocketAddr}
pub use Rattle.std.specs.declared.net.socket_addr.SocketAddr.TheVariants.{V4, V6}
pub use Rattle.rand_core.specs.Stream.{Stream}
pub use Rattle.is_proto.specs.Lists.{Has, is_empty, NonePass, places_where, same}
pub use Rattle.is_proto.specs.Times.{later, MAX, SECOND}
pub use Rattle.is_stun.specs.Theorems.{IsPut, LONGEST_REPLY, plain}
pub use Rattle.is_stun.specs.Timing.{is_modern}
pub use Rattle.is_stun.specs.declared.timing.StunTiming.{StunTiming}
pub use Rattle.is_candidate.specs.Candidates.{base_of, candidate_at, CandidateRecord, nowhere}
pub use Rattle.is_candidate.specs.Priorities.{candidate_priority, TOO_HIGH}
pub use Rattle.is_candidate.specs.declared.candidate.kind.CandidateKind.TheVariants.{Host, PeerReflexive, Relayed, ServerReflexive}
pub use Rattle.is_pair.specs.Checklists.{HasRoom, multiset_of}
pub use Rattle.is_pair.specs.Checks.{Check, has_id, unanswered_count}
pub use Rattle.is_pair.specs.Due.{scheduled, call_time_of, GoesBefore, is_due, is_triggered, moved_up, triggered}
pub use Rattle.is_pair.specs.Multiset.{are_below, change_at, change_pair, Evicts, EvictsInTurn, has_number, is_awaiting, is_between}
pub use Rattle.is_pair.specs.Multiset.{is_named_by, is_numbered, is_valid_at, IsAwaiting, IsGreatest, IsLeastPassing, IsPairBetween}
pub use Rattle.is_pair.specs.Multiset.{keeps_check, KeepsKeys, pair_numbered, rises, without}
pub use Rattle.is_pair.specs.Pairs.{checked, is_nominated, is_valid, nominated, numbered, PairRecord, renominated, taking_over, validated}
pub use Rattle.is_pair.specs.Pairs.{with_request}
pub use Rattle.is_pair.specs.Silence.{last_sent}
pub use Rattle.is_rules.specs.Agent.{AgentRecord}
pub use Rattle.is_rules.specs.Checking.{all_scheduled, check_sent, ChecksTop, is_selected_number, IsNextToCheck, MayCheck}
pub use Rattle.is_rules.specs.Credentials.{ice_char, ice_text}
pub use Rattle.is_rules.specs.Evicting.{AreCounted, EvictsOfMost, EvictsOfMostInTurn, HasMost, is_of_kind, is_placed_of_kind, IsLeastOfKind}
pub use Rattle.is_rules.specs.Evicting.{IsLeastOfMost, IsLowestOfMost, kind_count}
pub use Rattle.is_rules.specs.Forming.{AreIn, Combination, combined_priority, EvictsFor, Formed, formed, formed_as, is_alive, is_alive_at}
pub use Rattle.is_rules.specs.Forming.{is_partner, is_partner_at, is_redundant, live_combinations, live_places, live_row}
pub use Rattle.is_rules.specs.Forming.{local_combinations, pair_of, partners, remote_combinations, sides_of, SidesRecord, tried, Tries}
pub use Rattle.is_rules.specs.Forming.{with_pair}
pub use Rattle.is_rules.specs.FormingView.{sides_view}
pub use Rattle.is_rules.specs.Kept.{are_placed, is_placed, NoneTooHigh}
pub use Rattle.is_rules.specs.Kinds.{base_network, counted_kind, INNER, is_inner, is_reflexive, is_reflexive_like, is_reflexive_of, IsNextAhead, kind_of}
pub use Rattle.is_rules.specs.Kinds.{kind_rank, KINDS, own_network, reach_of, remote_rank, TurnsBefore}
pub use Rattle.is_rules.specs.Leaving.{gives_way, is_asked_along, is_silent_enough, IsAskedNext, may_replace, path_left, silent_gone}
pub use Rattle.is_rules.specs.Limit.{has_room, is_on, is_vacant, IsPlaceOf, IsSenderPlace, IsVacancy, NoneVacantBelow, IsPlaceAtLimit}
pub use Rattle.is_rules.specs.Nominating.{eligible_numbered, favored, first_after, first_numbered, followed, if_eligible, is_eligible}
pub use Rattle.is_rules.specs.Nominating.{is_pressing, IsChosen, NamesTop, nominated_by_self, nominated_emitted, Nominates}
pub use Rattle.is_rules.specs.Nominating.{nominates_at_once, NominatesWhere, numbers, pair_selected, remains, Selection, selection}
pub use Rattle.is_rules.specs.Nominating.{selection_of, with_selection}
pub use Rattle.is_rules.specs.Owed.{one_if}
pub use Rattle.is_rules.specs.Places.{is_live, is_sender, IsGreatestBelow, local_place, remote_index}
pub use Rattle.is_rules.specs.Polls.{earliest_call, early_ta, IdleTimeout, is_early, is_idle, is_waiting, NextTimeoutFrom, NextTimeouts}
pub use Rattle.is_rules.specs.Polls.{pacing_of, PollsTimeout, soon, WaitingTimeout}
pub use Rattle.is_rules.specs.Request.{RequestRecord}
pub use Rattle.is_rules.specs.RequestView.{request_view, waiting_view}
pub use Rattle.is_rules.specs.Restarting.{is_selection, with_ufrag}
pub use Rattle.is_rules.specs.Roles.{conflict_of, switched, switched_sides, with_priority_in}
pub use Rattle.is_rules.specs.Serving.{Drops, is_487, is_admitted, is_for_other_peer, is_misled, needs_pair_at, nominated_by_peer}
pub use Rattle.is_rules.specs.Serving.{numbered_by_peer, pair_added, pair_number, pair_served, Replies, request_counted, role_after}
pub use Rattle.is_rules.specs.Serving.{selects_at_requests, sender_added, sender_index, SendsRoleConflict, served, Serves, triggered_time}
pub use Rattle.is_rules.specs.Serving.{validated_by_peer, with_sender, with_sender_at}
pub use Rattle.is_rules.specs.Shares.{AreSums, EvictsSomeOfMost, is_low_of_kind, lowered, Takes, TakesInTurn}
pub use Rattle.is_rules.specs.Slots.{address_number, AreHeld, IsHeld, slot_of}
pub use Rattle.is_rules.specs.Timeouts.{at_request, at_timeout, expired_gone, is_expired, MaintainsPairs, RemovesExpired, ServesQueued}
pub use Rattle.is_rules.specs.Timeouts.{timeout_begun, TimesOut}
pub use Rattle.is_rules.specs.declared.credentials.IceCreds.{IceCreds}
pub use Rattle.is_rules.specs.declared.emitted.Emitted.{Emitted}
pub use Rattle.is_rules.specs.declared.emitted.Issued.{Issued}
pub use Rattle.is_rules.specs.declared.emitted.Path.{Path}
pub use Rattle.is_rules.specs.declared.places.RemotePlace.{RemotePlace}
pub use Rattle.is_rules.specs.declared.places.RemotePlace.TheVariants.{Barred, Full, Known, Unknown, Vacant}
pub use Rattle.is_rules.specs.declared.roles.Conflict.{Conflict}
pub use Rattle.is_rules.specs.declared.roles.Conflict.TheVariants.{Absent, Send487, SwitchRole}

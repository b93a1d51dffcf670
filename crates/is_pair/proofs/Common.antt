-- The names that most proofs of this crate cite, passed on from one place. Declares nothing.
pub use Rattle.std.proofs.Common.{[], ◌&&◌, ◌*◌, ◌++◌, ◌+◌, ◌-◌, ◌/◌, ◌<◌, ◌==◌, ◌^◌, ◌||◌, ◌∙◌, ◌∷◌, ◌≡◌, ◌≤◌, ◌⊎◌, ap, append_assoc}
pub use Rattle.std.proofs.Common.{arith, Bool, Bor, bytes_eq, cond, count_by, drop, false, filter, find, fold, get_or, IfSome}
pub use Rattle.std.proofs.Common.{if◌then◌else◌, inl, inr, insert, is_some, length, List, map, max, min, nat_le, nat_lt, None, not, Option}
pub use Rattle.std.proofs.Common.{option_map, position, refl, remove, reverse, rules, slice_get, slice_set, Some, subst, suc, sym, take}
pub use Rattle.std.proofs.Common.{tests, true, unwrap_or, vec_capacity, vec_len, zero, ℕ}
pub use Rattle.std.proofs.lemmas.Bool.{cases_lt, eq-eqb, eqb-true}
pub use Rattle.std.proofs.lemmas.Bool.Decides.{nat_tests}
pub use Rattle.std.proofs.lemmas.Fn.{filter_same}
pub use Rattle.std.proofs.lemmas.Iterator.{YieldsList, YieldsList-from_slice}
pub use Rattle.std.proofs.lemmas.Iterator.Adapters.{position_from-zero}
pub use Rattle.std.proofs.lemmas.Iterator.Search.{find_from_yields_List, position_from_yields_List}
pub use Rattle.std.proofs.lemmas.List.{append-nil, drop-append-le, drop-drop, drop_all, drop_more, length-append, length-drop}
pub use Rattle.std.proofs.lemmas.List.{length-reverse, length-set, length-take, map-append, reverse-append, take-append-drop, take_more}
pub use Rattle.std.proofs.lemmas.List.Edits.{map_over_more}
pub use Rattle.std.proofs.lemmas.List.Folds.{find_at, list_all-append, list_any-append}
pub use Rattle.std.proofs.lemmas.List.Quantifiers.{position-Some}
pub use Rattle.std.proofs.lemmas.List.Sorted.{IsNonDecreasingBy-from_sort_by_key, IsNonDecreasingBy-insert, IsPartitionedBy-leb}
pub use Rattle.std.proofs.lemmas.List.Sorted.{IsPartitionPoint-from_clause, IsPermutation-insert, IsPermutation-map, list_any-IsPermutation}
pub use Rattle.std.proofs.lemmas.List.Sums.{count_by-le-length, length-filter}
pub use Rattle.std.proofs.lemmas.Map.Views.{any-filter_same}
pub use Rattle.std.proofs.lemmas.Option.{cond_some, get_or_from_slice_get, slice_get-get_or, slice_get_past, slice_get_read}
pub use Rattle.std.proofs.lemmas.Option.{slice_get_within}
pub use Rattle.std.proofs.lemmas.Slice.Eq.{bytes_eq-Decides}
pub use Rattle.std.specs.List.{AllByRecursion, cons_option, list_all, list_any, position_from, position_or_len}
pub use Rattle.std.specs.List.Sorted.{IsNonDecreasingBy, IsPartitionedBy, IsPartitionPoint, IsPermutation}
pub use Rattle.std.specs.Option.{option_copied, option_map_or, option_to_list}
pub use Rattle.std.specs.VecDeque.{deque_capacity, deque_len}
pub use Rattle.is_proto.specs.Lists.{Has, NonePass}
pub use Rattle.is_proto.specs.Times.{later, MAX, MILLISECOND}
pub use Rattle.is_stun.specs.declared.timing.StunTiming.{StunTiming}
pub use Rattle.is_pair.specs.Checklists.{HasCheckRoom, HasRoom, multiset_of, removed_of}
pub use Rattle.is_pair.specs.Checks.{answered_at, Check, has_id, is_answered, is_kept, IsCheckAt, last_check, last_checks, last_round_trip}
pub use Rattle.is_pair.specs.Checks.{unanswered_count}
pub use Rattle.is_pair.specs.Cutting.{CutsByNext, LeavesCurrent}
pub use Rattle.is_pair.specs.Due.{ASKED_TIME, call_time_of, call_time_with, computed_due_time, consent_end, delay_of, delaying_count}
pub use Rattle.is_pair.specs.Due.{due_time_of, early_span, EARLY_TIME, early_time, GoesBefore, hushed_delay, HUSHED_INTERVAL, HUSHED_TIME}
pub use Rattle.is_pair.specs.Due.{is_asked_first, is_due, is_hushed, is_repeated_early, is_silent, is_within, IsEarliest, LATENESS}
pub use Rattle.is_pair.specs.Due.{modern_delay, next_due_time, repeated_delay, SHORT_INTERVAL, silent_count, usual_delay}
pub use Rattle.is_pair.specs.Entries.{are_ordered, are_single, has_passing, ids_rise, is_before, is_current, is_named, is_rank, is_ranked}
pub use Rattle.is_pair.specs.Entries.{IsIndex, IsRanking, named_after, names, names_passing, rank_now}
pub use Rattle.is_pair.specs.Lowest.{AreRanked, EvictsSome, is_low, listed_by, pairs_of, priorities_rise}
pub use Rattle.is_pair.specs.Multiset.{are_below, are_fewer, change_at, change_pair, EvictsInTurn, has_number, is_numbered, IsAwaiting}
pub use Rattle.is_pair.specs.Multiset.{IsGreatest, IsLeast, IsLeastPassing, IsLowest, keep_fewer, keeps, KeepsKeys, pair_numbered}
pub use Rattle.is_pair.specs.Multiset.{passes_at, ranks, rises, with_priority, without}
pub use Rattle.is_pair.specs.Pairs.{check_of, checked, PairRecord, TakesAnswer}
pub use Rattle.is_pair.specs.Removed.{kept_as, last_removed, removed_after, REMOVED_LIMIT, removed_passing, RemovedFit}
pub use Rattle.is_pair.specs.Records.{RecordsFit, records_of}
pub use Rattle.is_pair.specs.ShortRecords.{joined, long_count, pair_of_short}
pub use Rattle.is_pair.specs.Turns.{CheckedIsLater, due_by, FewerAreAhead, is_due_by, IsPaced}
pub use Rattle.is_pair.specs.declared.checklist.entries.Kept.{Kept}
pub use Rattle.is_pair.specs.declared.checklist.entries.Rank.{Rank}
pub use Rattle.is_pair.specs.declared.checklist.records.Place.{Place}
pub use Rattle.is_pair.specs.declared.checklist.records.Place.TheVariants.{Long, Short}
pub use Rattle.is_pair.specs.declared.checklist.records.ShortRecord.{ShortRecord}
pub use Rattle.is_pair.specs.declared.checklist.removed.Removal.TheVariants.{Evicted}
pub use Rattle.is_pair.specs.declared.checklist.removed.RemovedPair.{RemovedPair}
pub use Rattle.is_pair.specs.declared.pair.cut.Cut.{Cut}

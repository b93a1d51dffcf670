-- When forming pairs may remove a pair: one of the new pairs replaces it, or there are too many pairs (RFC 8445, sections 6.1.2.4
-- and 6.1.2.5).
use Rattle.std.specs.Prelude.{◌≡◌, ◌==◌, ℕ, ◌+◌, ◌*◌, ◌<◌, ◌&&◌, ◌||◌, ◌⊎◌, Bool, true, false, not, nat_le, nat_lt, List, length, position, count_by, Option, Some, None, MatchBool, if◌then◌else◌}
use Rattle.std.specs.List.{list_any}
use Rattle.is_candidate.specs.Candidates.{CandidateRecord, candidate_at}
use Rattle.is_candidate.specs.Equality.{is_same_place}
use Rattle.is_pair.specs.Pairs.{PairRecord}
use Rattle.is_rules.specs.Agent.{AgentRecord}
use Rattle.is_rules.specs.Discarding.{local_discarded}
use Rattle.is_rules.specs.Forming.{SidesRecord, Combination, combined_priority, is_redundant, local_combinations, remote_combinations, sides_of}
use Rattle.is_rules.specs.Kinds.{kind_between, kind_of, KINDS}
use Rattle.is_rules.specs.Local.{as_own, appended, comes_again, enabled, enabled_again, preferred, Prefers}
use Rattle.is_rules.specs.Remote.{as_remote, is_ignored, is_placeholder, place_or_end, with_remote}

-- The combination is redundant with the pair, and has a greater priority. So its new pair may replace the pair: it takes over
-- its success, and none of its pending transactions.
abbrev pub is_replaced_by : SidesRecord → PairRecord → Combination → Bool
is_replaced_by s p at = is_redundant s at p && nat_lt p.priority (combined_priority s at)

-- A pair of this kind may take the pair's place at the limit. With kinds in turn only one of its own kind does.
abbrev pub is_rival : SidesRecord → PairRecord → ℕ → Bool
is_rival s p kind = not s.modern || kind == kind_of s.local s.remote p

-- The other pair, or the combination, is a rival with no smaller priority than the pair.
abbrev pub ranks_with : SidesRecord → PairRecord → PairRecord → Bool
ranks_with s p q = nat_le p.priority q.priority && is_rival s p (kind_of s.local s.remote q)

abbrev pub combines_with : SidesRecord → PairRecord → Combination → Bool
combines_with s p at =
    nat_le p.priority (combined_priority s at) && is_rival s p (kind_between s.local (candidate_at s.local at.0) (candidate_at s.remote at.1))

-- how many pairs rank with the pair, at most, after these combinations are formed
abbrev pub rank_count : SidesRecord → List PairRecord → List Combination → PairRecord → ℕ
rank_count s pairs all p = count_by (ranks_with s p) pairs + count_by (combines_with s p) all

-- How many pairs there are at most, if so many rank with the pair and it is the one to be removed. With kinds in turn no kind has
-- more pairs than its own.
abbrev pub most_pairs : SidesRecord → ℕ → ℕ
most_pairs s ranked = if s.modern then KINDS * ranked else ranked

module _ {H P : Type 0} where
  -- Forming these combinations may remove the pair: it is replaced, or there may be more pairs than the limit, and more than that rank
  -- with the pair; with kinds in turn, more than a ninth of it.
  abbrev pub MayBeRemoved : AgentRecord H P → List Combination → PairRecord → Type 0
  MayBeRemoved a all p =
      (list_any (is_replaced_by (sides_of a) p) all ≡ true)
      ⊎ ((a.max_pairs < length a.pairs + length all)
      × (a.max_pairs < most_pairs (sides_of a) (rank_count (sides_of a) a.pairs all p)))

  -- ---- a remote candidate is added

  abbrev pub MayEndByStoring : AgentRecord H P → CandidateRecord → Option ℕ → PairRecord → Type 0
  MayEndByStoring old c place p = MayBeRemoved (with_remote c place old) (remote_combinations c (place_or_end place old.remote) old.local) p

  -- An ignored candidate removes no pair.
  abbrev pub MayEndByRemote : AgentRecord H P → CandidateRecord → PairRecord → Type 0
  MayEndByRemote old c p =
      (is_ignored old c ≡ false) × MayEndByStoring old (as_remote c) (position (is_placeholder (as_remote c)) old.remote) p

  -- ---- a local candidate is added

  -- The candidate is appended to the state `mid`.
  abbrev pub MayEndByAppending : AgentRecord H P → CandidateRecord → AgentRecord H P → PairRecord → Type 0
  MayEndByAppending old c mid p = MayBeRemoved (appended (as_own old c) mid) (local_combinations (as_own old c) (length old.local) old.remote) p

  -- The candidate is enabled again; or it is appended, and the one at the same place, if any, is discarded with its pairs.
  abbrev pub MayEndByEnrolling : AgentRecord H P → CandidateRecord → Option ℕ → PairRecord → Type 0
  MayEndByEnrolling old c None p = MayEndByAppending old c old p
  MayEndByEnrolling old c (Some place) p =
      MatchBool (comes_again c (candidate_at old.local place))
      (MayBeRemoved (enabled_again place old) (local_combinations (enabled (candidate_at old.local place)) place old.remote) p)
      ((p.local ≡ place) ⊎ MayEndByAppending old c (local_discarded place old) p)

  -- The candidate is added with a local preference that it may get.
  abbrev pub MayEndByLocal : (P → CandidateRecord → ℕ → ℕ → Type 0) → AgentRecord H P → CandidateRecord → PairRecord → Type 0
  MayEndByLocal answers old c p =
      (preference : ℕ) × Prefers answers old c preference
      × MayEndByEnrolling old (preferred preference c) (position (is_same_place (preferred preference c)) old.local) p

-- The limit on candidates that the program adds (`set_max_candidates`), and that on candidates that received packets bring
-- (`set_max_discovered`): remote ones by requests, local ones by responses. And the place that an unknown sender gets.
use Rattle.std.specs.Prelude.{◌≡◌, ℕ, ◌==◌, ◌<◌, ◌-◌, ◌&&◌, ◌||◌, Bool, true, false, not, nat_lt, List, length, drop, count_by}
use Rattle.std.specs.Prelude.{Option, Some, None, MatchBool, ◌⊎◌}
use Rattle.std.specs.List.{list_any}
use Rattle.std.specs.Option.{option_map_or}
use Rattle.is_candidate.specs.Candidates.{CandidateRecord, candidate_at}
use Rattle.is_candidate.specs.declared.candidate.kind.CandidateKind.TheVariants.{PeerReflexive}
use Rattle.is_candidate.specs.Equality.{is_temporary}
use Rattle.is_candidate.specs.Kinds.{same_kind}
use Rattle.is_pair.specs.Pairs.{PairRecord}
use Rattle.is_rules.specs.declared.accepting.Source.{Source}
use Rattle.is_rules.specs.declared.emitted.Path.{Path}
use Rattle.is_rules.specs.declared.places.RemotePlace.{RemotePlace}
use Rattle.is_rules.specs.declared.places.RemotePlace.TheVariants.{Known, Barred, Unknown, Vacant, Full}
use Rattle.is_rules.specs.Agent.{AgentRecord}
use Rattle.is_rules.specs.Forming.{is_alive}
use Rattle.is_rules.specs.Places.{is_at, IsRemotePlace}
use Rattle.is_rules.specs.Request.{RequestRecord}

-- The number is below the limit. Without a limit each is.
abbrev pub is_below : Option ℕ → ℕ → Bool
is_below limit n = option_map_or (λ most. nat_lt n most) limit true

-- ---- candidates that the program adds

-- As many candidates of the side are listed as the limit allows. Discarded ones are not listed.
abbrev pub is_full : Option ℕ → List CandidateRecord → Bool
is_full limit cs = not (is_below limit (count_by is_alive cs))

-- ---- remote candidates that requests bring

-- How many remote candidates requests brought. Discarded ones count, since they stay in the list.
abbrev pub discovered_count : List CandidateRecord → ℕ
discovered_count remote = count_by is_temporary remote

abbrev pub has_room : Option ℕ → List CandidateRecord → Bool
has_room limit remote = is_below limit (discovered_count remote)

-- the pair has the remote candidate at the index
abbrev pub is_on : ℕ → PairRecord → Bool
is_on place p = p.remote == place

-- A request brought the candidate at the index, and no pair has it.
abbrev pub is_vacant : List CandidateRecord → List PairRecord → ℕ → Bool
is_vacant remote pairs place = is_temporary (candidate_at remote place) && not (list_any (is_on place) pairs)

-- no index below the end is vacant
abbrev pub NoneVacantBelow : ℕ → List CandidateRecord → List PairRecord → Type 0
NoneVacantBelow end remote pairs = (k : ℕ) → k < end → is_vacant remote pairs k ≡ false

-- At the limit an unknown sender gets the first vacant index. Without one there is no place for it.
abbrev pub IsVacancy : List CandidateRecord → List PairRecord → RemotePlace → Type 0
IsVacancy remote pairs (Vacant r) = (r < length remote) × (is_vacant remote pairs r ≡ true) × NoneVacantBelow r remote pairs
IsVacancy remote pairs Full = NoneVacantBelow (length remote) remote pairs
IsVacancy remote pairs _ = ⊥

-- Below the limit an unknown sender is appended.
abbrev pub IsRoom : Option ℕ → List CandidateRecord → List PairRecord → RemotePlace → Type 0
IsRoom limit remote pairs place = MatchBool (has_room limit remote) (place ≡ Unknown) (IsVacancy remote pairs place)

-- The limit acts on unknown senders only.
abbrev pub IsPlaceAtLimit : Option ℕ → List CandidateRecord → List PairRecord → RemotePlace → RemotePlace → Type 0
IsPlaceAtLimit limit remote pairs Unknown place = IsRoom limit remote pairs place
IsPlaceAtLimit limit remote pairs (Known r) place = place ≡ Known r
IsPlaceAtLimit limit remote pairs Barred place = place ≡ Barred
IsPlaceAtLimit limit remote pairs (Vacant r) place = ⊥
IsPlaceAtLimit limit remote pairs Full place = ⊥

-- where the sender of a request is among the remote candidates, or the place that it gets
abbrev pub IsPlaceOf : Option ℕ → List CandidateRecord → List PairRecord → RequestRecord → RemotePlace → Type 0
IsPlaceOf limit remote pairs q place = (found : RemotePlace) × IsRemotePlace remote q found × IsPlaceAtLimit limit remote pairs found place

-- ---- local candidates that responses bring

-- A response brings a peer-reflexive candidate. One that the caller added counts too.
abbrev pub is_mapped : CandidateRecord → Bool
is_mapped c = same_kind c.kind PeerReflexive

-- How many peer-reflexive local candidates there are. Discarded ones count, since they stay in the list.
abbrev pub mapped_count : List CandidateRecord → ℕ
mapped_count local = count_by is_mapped local

-- A response may bring one more local candidate.
abbrev pub has_local_room : Option ℕ → List CandidateRecord → Bool
has_local_room limit local = is_below limit (mapped_count local)

-- ---- discovered sources

-- With a limit, that many sources are kept: those discovered last.
abbrev pub newest : Option ℕ → List Source → List Source
newest None sources = sources
newest (Some most) sources = drop (length sources - most) sources

module _ {H P : Type 0} where
  abbrev pub IsSenderPlace : AgentRecord H P → RequestRecord → RemotePlace → Type 0
  IsSenderPlace a q place = IsPlaceOf a.max_discovered a.remote a.pairs q place

  -- So many events wait to be polled that no source is reported.
  abbrev pub is_crowded : AgentRecord H P → Bool
  is_crowded a = not (is_below a.max_discovered (length a.events))

  -- A request on the path is not dropped because of the limit: its sender is known, or there is a place for it. Without a limit
  -- there always is.
  abbrev pub HasPlaceFor : AgentRecord H P → Path → Type 0
  HasPlaceFor a path =
      ((list_any (is_at path.source path.proto) a.remote || has_room a.max_discovered a.remote) ≡ true)
      ⊎ ((k : ℕ) × (k < length a.remote) × (is_vacant a.remote a.pairs k ≡ true))

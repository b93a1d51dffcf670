-- Forming pairs (RFC 8445, section 6.1.2.2).
use Rattle.std.specs.Prelude.{◌≡◌, ℕ, ◌+◌, ◌<◌, ◌≤◌, ◌&&◌, Bool, not, nat_lt, List, [], ◌∷◌, ◌++◌, All, map, MatchBool, Option, Some, None, if◌then◌else◌}
use Rattle.std.specs.List.{flat_map}
use Rattle.is_proto.specs.Lists.{places_where}
use Rattle.is_proto.specs.Times.{MAX}
use Rattle.is_stun.specs.Timing.{is_modern}
use Rattle.is_candidate.specs.Addresses.{same_address, same_protocol, same_version}
use Rattle.is_candidate.specs.Candidates.{CandidateRecord, base_of, candidate_at, nowhere}
use Rattle.is_candidate.specs.Priorities.{candidate_priority}
use Rattle.is_pair.specs.Multiset.{is_numbered, without, IsGreatest, Evicts}
use Rattle.is_pair.specs.Pairs.{PairRecord, new_pair, taking_over}
use Rattle.is_pair.specs.Priorities.{pair_priority}
use Rattle.is_rules.specs.Each.{Each}
use Rattle.is_rules.specs.Agent.{AgentRecord}
use Rattle.is_rules.specs.Evicting.{EvictsOfMost}
use Rattle.is_rules.specs.Kinds.{kind_of}

-- ---- the input of forming, and what it changes

pub record SidesRecord : Type 0 where
  pub local : List CandidateRecord
  pub remote : List CandidateRecord
  pub controlling : Bool
  pub lite : Bool
  pub modern : Bool

-- the pairs, and the number of the next one
pub record Formed : Type 0 where
  pub pairs : List PairRecord
  pub next_number : ℕ

abbrev pub formed_as : List PairRecord → ℕ → Formed
formed_as pairs next_number = record { pairs = pairs; next_number = next_number }

-- ---- combinations

-- the index of a local candidate and that of a remote one
abbrev pub Combination : Type 0
Combination = ℕ × ℕ

-- The indices of each combination are in lists of so many local and remote candidates.
abbrev pub AreIn : ℕ → ℕ → List Combination → Type 0
AreIn locals remotes all = All (λ (at : Combination). (at.0 < locals) × (at.1 < remotes)) all

abbrev pub is_alive : CandidateRecord → Bool
is_alive c = not c.discarded

abbrev pub is_alive_at : List CandidateRecord → ℕ → Bool
is_alive_at cs place = is_alive (candidate_at cs place)

-- the indices of the candidates that are not discarded
abbrev pub live_places : List CandidateRecord → List ℕ
live_places cs = places_where nowhere is_alive cs

-- Candidates with the same protocol and IP version may be paired (RFC 8445, section 6.1.2.2).
abbrev pub may_pair : CandidateRecord → CandidateRecord → Bool
may_pair l r = same_protocol l.proto r.proto && same_version l.addr r.addr

-- A live candidate that may be paired with this one, and the indices of all such candidates.
abbrev pub is_partner : CandidateRecord → CandidateRecord → Bool
is_partner c other = not other.discarded && may_pair other c

abbrev pub is_partner_at : CandidateRecord → List CandidateRecord → ℕ → Bool
is_partner_at c cs place = is_partner c (candidate_at cs place)

abbrev pub partners : CandidateRecord → List CandidateRecord → List ℕ
partners c cs = places_where nowhere (is_partner c) cs

-- the combinations of a remote candidate that is to be stored at this index
abbrev pub remote_combinations : CandidateRecord → ℕ → List CandidateRecord → List Combination
remote_combinations c place local = map (λ l. (l, place)) (partners c local)

-- the combinations of a local candidate that is to be stored at this index
abbrev pub local_combinations : CandidateRecord → ℕ → List CandidateRecord → List Combination
local_combinations c place remote = map (λ r. (place, r)) (partners c remote)

-- the combinations of all live candidates, by local index first
abbrev pub live_row : List CandidateRecord → List CandidateRecord → ℕ → List Combination
live_row local remote l = local_combinations (candidate_at local l) l remote

abbrev pub live_combinations : List CandidateRecord → List CandidateRecord → List Combination
live_combinations local remote = flat_map (live_row local remote) (live_places local)

-- ---- one combination

-- The pair has the same base, the same remote address and the same protocols as the combination (RFC 8445, section 6.1.2.4).
abbrev pub is_redundant : SidesRecord → Combination → PairRecord → Bool
is_redundant s at p =
    same_address (base_of (candidate_at s.local p.local)) (base_of (candidate_at s.local at.0))
    && same_protocol (candidate_at s.local p.local).proto (candidate_at s.local at.0).proto
    && same_address (candidate_at s.remote p.remote).addr (candidate_at s.remote at.1).addr
    && same_protocol (candidate_at s.remote p.remote).proto (candidate_at s.remote at.1).proto

abbrev pub combined_priority : SidesRecord → Combination → ℕ
combined_priority s at =
    pair_priority s.controlling (candidate_priority (candidate_at s.remote at.1)) (candidate_priority (candidate_at s.local at.0))

abbrev pub pair_of : SidesRecord → Combination → ℕ → PairRecord
pair_of s at number = new_pair number at.0 at.1 (combined_priority s at)

-- What a combination leads to. Without a redundant pair a new pair is added. A redundant pair is replaced if the new pair has a
-- greater priority.
abbrev pub tried : SidesRecord → Combination → Option PairRecord → Formed → Formed
tried s at None old = formed_as (old.pairs ++ pair_of s at old.next_number ∷ []) (old.next_number + 1)
tried s at (Some found) old =
    if nat_lt found.priority (combined_priority s at)
    then formed_as (without (is_numbered found.number) old.pairs ++ taking_over s.lite found (pair_of s at old.next_number) ∷ [])
    (old.next_number + 1)
    else old

-- The redundant pair has the greatest priority of all redundant ones. Ties are broken arbitrarily.
abbrev pub Tries : SidesRecord → Combination → Formed → Formed → Type 0
Tries s at old new = (found : Option PairRecord) × IsGreatest (is_redundant s at) old.pairs found × (new ≡ tried s at found old)

-- ---- forming

-- Pairs are removed until the limit holds: pairs of lowest priority, with kinds in turn of those of the kind with the most pairs.
abbrev pub EvictsFor : SidesRecord → ℕ → List PairRecord → List PairRecord → Type 0
EvictsFor s limit old new = MatchBool s.modern (EvictsOfMost (kind_of s.local s.remote) limit old new) (Evicts limit old new)

-- Each combination is tried in turn, and then the limit is applied.
abbrev pub FormsEach : SidesRecord → ℕ → List Combination → Formed → Formed → Type 0
FormsEach s limit all old new =
    (mid : Formed) × Each (Tries s) all old mid × EvictsFor s limit mid.pairs new.pairs × (new.next_number ≡ mid.next_number)

-- numbers run from 0 to one below the greatest counter
abbrev pub HasNumbers : ℕ → ℕ → Type 0
HasNumbers next_number many = next_number + many ≤ MAX

module _ {H P : Type 0} where
  abbrev pub sides_of : AgentRecord H P → SidesRecord
  sides_of a = record { local = a.local; remote = a.remote; controlling = a.controlling; lite = a.lite; modern = is_modern a.timing }

  abbrev pub formed_of : AgentRecord H P → Formed
  formed_of a = formed_as a.pairs a.next_number

  abbrev pub with_formed : Formed → AgentRecord H P → AgentRecord H P
  with_formed f a = record a { pairs = f.pairs; next_number = f.next_number }

  -- The combinations are tried in turn, and then the limit is applied.
  abbrev pub FormsAll : AgentRecord H P → List Combination → AgentRecord H P → Type 0
  FormsAll old all new = (f : Formed) × FormsEach (sides_of old) old.max_pairs all (formed_of old) f × (new ≡ with_formed f old)

  -- by the present role, and the candidates that are at these indices now
  abbrev pub priority_between : AgentRecord H P → ℕ → ℕ → ℕ
  priority_between a l r = pair_priority a.controlling (candidate_priority (candidate_at a.remote r)) (candidate_priority (candidate_at a.local l))

  -- the pair of two indices, with the next number
  abbrev pub formed : AgentRecord H P → ℕ → ℕ → PairRecord
  formed a l r = new_pair a.next_number l r (priority_between a l r)

  abbrev pub with_pair : PairRecord → AgentRecord H P → AgentRecord H P
  with_pair p a = record a { pairs = a.pairs ++ p ∷ []; next_number = a.next_number + 1 }

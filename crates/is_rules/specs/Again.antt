-- A path that was left is checked again: the next success response, which arrives on another path, forms its pair again.
use Rattle.std.specs.Prelude.{ℕ, ◌+◌, ◌&&◌, Bool, not, nat_lt, List, [], ◌∷◌, ◌++◌, length, Option, Some, None, if◌then◌else◌}
use Rattle.std.specs.List.{list_any}
use Rattle.std.specs.Option.{option_and_then}
use Rattle.is_proto.specs.Times.{MAX}
use Rattle.is_candidate.specs.Candidates.{CandidateRecord, candidate_at}
use Rattle.is_pair.specs.Multiset.{is_between}
use Rattle.is_pair.specs.Pairs.{PairRecord}
use Rattle.is_rules.specs.Agent.{AgentRecord}
use Rattle.is_rules.specs.Forming.{formed, is_alive, is_partner}
use Rattle.is_rules.specs.Limit.{is_mapped}

-- the indices of both candidates
abbrev pub candidates_of : PairRecord → ℕ × ℕ
candidates_of p = (p.local, p.remote)

-- The pair of these candidates may be formed again: both are there and not discarded, the local one is not peer-reflexive, they may be
-- paired, and they have no pair.
abbrev pub may_form_between : List CandidateRecord → List CandidateRecord → List PairRecord → ℕ × ℕ → Bool
may_form_between local remote pairs at =
    nat_lt at.0 (length local) && nat_lt at.1 (length remote) && is_alive (candidate_at local at.0) && not (is_mapped (candidate_at local at.0))
    && is_partner (candidate_at local at.0) (candidate_at remote at.1) && not (list_any (is_between at.0 at.1) pairs)

-- the pairs with one more, if there is one
abbrev pub pairs_with : Option PairRecord → List PairRecord → List PairRecord
pairs_with None pairs = pairs
pairs_with (Some p) pairs = pairs ++ p ∷ []

-- the number of the pair that is formed next
abbrev pub number_after : Option PairRecord → ℕ → ℕ
number_after None number = number
number_after (Some p) number = number + 1

module _ {H P : Type 0} where
  -- The pair of these candidates may be formed again, and a number is left for it.
  abbrev pub may_form_again : AgentRecord H P → ℕ × ℕ → Bool
  may_form_again a at = may_form_between a.local a.remote a.pairs at && nat_lt a.next_number MAX

  -- the pair that is formed again
  abbrev pub pair_again : AgentRecord H P → Option PairRecord
  pair_again a = option_and_then (λ (at : ℕ × ℕ). if may_form_again a at then Some (formed a at.0 at.1) else None) a.left

  -- The pair of the path that was left is formed again, if it may be.
  abbrev pub formed_again : AgentRecord H P → AgentRecord H P
  formed_again a = record a {
    pairs = pairs_with (pair_again a) a.pairs;
    next_number = number_after (pair_again a) a.next_number;
    left = None;
  }

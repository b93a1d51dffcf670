-- The entries in the index and in the ordered set of a checklist, compared with its list of pairs.
use Rattle.std.specs.Prelude.{◌≡◌, ℕ, ◌==◌, ◌&&◌, ◌||◌, not, Bool, true, nat_le, bytes_eq, List, [], ◌∷◌, if◌then◌else◌}
use Rattle.std.specs.List.{list_any, list_all}
use Rattle.std.specs.Cmp.Lexicographic.{slice_cmp}
use Rattle.std.specs.Ordering.{is_lt, nat_cmp}
use Rattle.std.specs.Option.{option_map_or}
use Rattle.is_pair.specs.declared.checklist.entries.Kept.{Kept}
use Rattle.is_pair.specs.declared.checklist.entries.Rank.{Rank}
use Rattle.is_pair.specs.Checks.{is_kept}
use Rattle.is_pair.specs.Pairs.{PairRecord}
use Rattle.is_pair.specs.Multiset.{pair_numbered, passes_at, keeps, ranks}

-- an ID comes before another in the order of their bytes
abbrev pub is_before : List ℕ → List ℕ → Bool
is_before a b = is_lt (slice_cmp nat_cmp a b)

-- the entries are sorted by transaction ID
abbrev pub ids_rise : List Kept → Bool
ids_rise [] = true
ids_rise (k ∷ ks) = list_all (λ (q : Kept). not (is_before q.id.0 k.id.0)) ks && ids_rise ks

abbrev pub names : List ℕ → ℕ → Kept → Bool
names id number k = k.number == number && bytes_eq k.id.0 id

abbrev pub is_named : List ℕ → ℕ → List Kept → Bool
is_named id number index = list_any (names id number) index

-- the index names, for each ID, exactly the pairs with a pending transaction of this ID
abbrev pub IsIndex : List Kept → List PairRecord → Type 0
IsIndex index pairs = (id : List ℕ) (number : ℕ) → is_named id number index ≡ keeps id number pairs

abbrev pub is_rank : ℕ → ℕ → Rank → Bool
is_rank priority number r = r.number == number && r.priority == priority

abbrev pub is_ranked : ℕ → ℕ → List Rank → Bool
is_ranked priority number rs = list_any (is_rank priority number) rs

-- the set has exactly the pairs with their priorities
abbrev pub IsRanking : List Rank → List PairRecord → Type 0
IsRanking rs pairs = (priority : ℕ) (number : ℕ) → is_ranked priority number rs ≡ ranks priority number pairs

-- the entries are sorted by priority, the greatest first
abbrev pub are_ordered : List Rank → Bool
are_ordered [] = true
are_ordered (r ∷ rs) = list_all (λ q. nat_le q.priority r.priority) rs && are_ordered rs

-- no two entries have the same number
abbrev pub are_single : List Rank → Bool
are_single [] = true
are_single (r ∷ rs) = list_all (λ q. not (q.number == r.number)) rs && are_single rs

-- the entry has the ID, and its pair passes
abbrev pub names_passing : List ℕ → (PairRecord → Bool) → List PairRecord → Kept → Bool
names_passing id test pairs k = bytes_eq k.id.0 id && list_any (passes_at k.number test) pairs

-- the pair of the entry passes
abbrev pub has_passing : (PairRecord → Bool) → List PairRecord → Rank → Bool
has_passing test pairs r = list_any (passes_at r.number test) pairs

-- the entry with the current priority of its pair
abbrev pub rank_now : List PairRecord → Rank → Rank
rank_now pairs r = option_map_or (λ (p : PairRecord). record r { priority = p.priority }) (pair_numbered r.number pairs) r

-- ---- after a check is sent

-- the entry names another pair, or an ID that this one stores
abbrev pub is_current : PairRecord → Kept → Bool
is_current p k = not (k.number == p.number) || is_kept k.id.0 p.checks

-- whether the index names the number for i, after the pair, as it is now, sent a check with the ID
abbrev pub named_after : PairRecord → List ℕ → List ℕ → ℕ → List Kept → Bool
named_after p id i number index =
    if p.number == number then bytes_eq id i || (is_named i number index && is_kept i p.checks) else is_named i number index

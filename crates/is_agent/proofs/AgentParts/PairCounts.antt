-- How many pairs there are after a call, at most: room for events is kept for as many.
use Rattle.std.proofs.Common.{if◌then◌else◌, ◌≡◌, ℕ, ◌+◌, ◌<◌, ◌≤◌, not, nat_lt, Bool, true, false, List, [], ◌∷◌, ◌++◌, filter, length, Option, Some, None, is_some, refl, sym, ap, ◌∙◌, arith}
use Rattle.std.proofs.lemmas.Bool.Decides.{nat_tests}
use Rattle.std.proofs.lemmas.List.{length-append, length-map}
use Rattle.std.proofs.lemmas.List.Sums.{length-filter, count_by-le-length}
use Rattle.std.specs.Prelude.{MatchBool}
use Rattle.is_pair.specs.Pairs.{PairRecord, taking_over}
use Rattle.is_pair.specs.Multiset.{change_at, change_pair, is_numbered, without, RecordsAnswer}
use Rattle.is_rules.specs.declared.emitted.Path.{Path}
use Rattle.is_rules.specs.Agent.{AgentRecord}
use Rattle.is_rules.specs.Discarding.{is_local_at, is_remote_at, InvalidatesAt}
use Rattle.is_rules.specs.Each.{Each}
use Rattle.is_rules.specs.Forming.{SidesRecord, Combination, Formed, FormsEach, Tries, formed_as, combined_priority, pair_of}
use Rattle.is_rules.specs.Nominating.{nominated_by_self, pair_selected, remains, selection, Names, Selection}
use Rattle.is_rules.specs.Sending.{path_at}
use Rattle.is_rules.specs.StateUpdates.{has_selected}
use Rattle.is_rules.proofs.PairLists.RemovedInTurn.{removes, RemovesInTurn}

-- ---- pairs that go

pub few-left : {X : Type 0} (t : X → Bool) (xs : List X) → length (filter t xs) ≤ length xs
few-left t xs = omega (arith, length-filter t xs, count_by-le-length t xs)

-- as many are left only if none went
pub all-left : {X : Type 0} (t : X → Bool) (xs : List X) → length xs ≤ length (filter t xs) → filter t xs ≡ xs
all-left t [] many = refl
all-left {X = X} t (x ∷ xs) many = by (t x) (λ all. all-left t xs all) many where
  by : (b : Bool) → (length xs ≤ length (filter t xs) → filter t xs ≡ xs) → length (x ∷ xs) ≤ length (if b then x ∷ filter t xs else filter t xs) → (if b then x ∷ filter t xs else filter t xs) ≡ x ∷ xs
  by true rest all = ap (λ (ys : List X). x ∷ ys) (rest (omega (arith, all)))
  by false rest all = absurd (omega (arith, all, few-left t xs))

left-in-turn : (limit : ℕ) (gone old new : List PairRecord) → RemovesInTurn limit gone old new → length new ≤ length old
left-in-turn limit [] old new (within, same) = omega (arith, ap length same)
left-in-turn limit (p ∷ gone) old new (over, has, rest) =
    let next = left-in-turn limit gone (without (is_numbered p.number) old) new rest in
    omega (arith, next, few-left (λ q. not (is_numbered p.number q)) old)

-- ---- pairs that change

pub as-many-changed : (n : ℕ) (f : PairRecord → PairRecord) (ps : List PairRecord) → length (change_pair n f ps) ≡ length ps
as-many-changed n f ps = length-map ps (change_at n f)

pub as-many-begun : (begins : Bool) (n : ℕ) (f : PairRecord → PairRecord) (ps : List PairRecord) → length (if begins then change_pair n f ps else ps) ≡ length ps
as-many-begun true n f ps = as-many-changed n f ps
as-many-begun false n f ps = refl

pub as-many-answered : (n now : ℕ) (id : List ℕ) (ps after : List PairRecord) → RecordsAnswer n now id ps after → length after ≡ length ps
as-many-answered n now id ps after (p, new, found, taken, made) = ap length made ∙ as-many-changed new.number (λ _. new) ps

pub as-many-named : (s : SidesRecord) (followed : Option ℕ) (old new : Selection) (path : Option Path) → Names s followed old path new
    → length new.pairs ≡ length old.pairs
as-many-named s followed old new path (None, chosen, named) = ap (λ (x : Selection). length x.pairs) named.1
as-many-named s followed old new path (Some top, chosen, named) = by (remains followed top old) named where
  by : (b : Bool) → MatchBool b ((path ≡ None) × (new ≡ old))
      ((path ≡ Some (path_at s.local s.remote top.local top.remote)) × (new ≡ selection (change_pair top.number (nominated_by_self s.controlling s.lite) old.pairs) (Some top.number))) → length new.pairs ≡ length old.pairs
  by true (none, same) = ap (λ (x : Selection). length x.pairs) same
  by false (emitted, same) = ap (λ (x : Selection). length x.pairs) same ∙ as-many-changed top.number (nominated_by_self s.controlling s.lite) old.pairs

-- ---- pairs that are formed

tried-more : (s : SidesRecord) (at : Combination) (old new : Formed) → Tries s at old new → length new.pairs ≤ length old.pairs + 1
tried-more s at old new (None, greatest, is) =
    omega (arith, ap (λ (f : Formed). length f.pairs) is, length-append old.pairs (pair_of s at old.next_number ∷ []))
tried-more s at old new (Some found, greatest, is) =
    by (nat_lt found.priority (combined_priority s at)) (without (is_numbered found.number) old.pairs) (taking_over s.lite found (pair_of s at old.next_number)) (few-left (λ p. not (is_numbered found.number p)) old.pairs) is where
      by : (b : Bool) (left : List PairRecord) (added : PairRecord) → length left ≤ length old.pairs
          → new ≡ (if b then formed_as (left ++ added ∷ []) (old.next_number + 1) else old) → length new.pairs ≤ length old.pairs + 1
      by true left added few made = omega (arith, ap (λ (f : Formed). length f.pairs) made, length-append left (added ∷ []), few)
      by false left added few made = omega (arith, ap (λ (f : Formed). length f.pairs) made)

each-more : (s : SidesRecord) (all : List Combination) (old new : Formed) → Each (Tries s) all old new → length new.pairs ≤ length old.pairs + length all
each-more s [] old new same = omega (arith, ap (λ (f : Formed). length f.pairs) same)
each-more s (at ∷ all) old new (mid, tried, rest) = omega (arith, tried-more s at old mid tried, each-more s all mid new rest)

-- at most one for each combination
pub formed-more : (s : SidesRecord) (limit : ℕ) (all : List Combination) (old new : Formed) → FormsEach s limit all old new
    → length new.pairs ≤ length old.pairs + length all
formed-more s limit all old new (mid, each, evicts, last) =
    let (gone, removed) = removes s limit mid.pairs new.pairs evicts in
    omega (arith, each-more s all old mid each, left-in-turn limit gone mid.pairs new.pairs removed)

-- ---- a candidate that is discarded

found-there : (selected : Option ℕ) (old new : List PairRecord) → new ≡ old → is_some (pair_selected selected new) ≡ is_some (pair_selected selected old)
found-there selected old new same = ap (λ ps. is_some (pair_selected selected ps)) same

lost-with : (gone : PairRecord → Bool) (selected : Option ℕ) (ps : List PairRecord) → is_some (pair_selected selected ps) ≡ true
    → is_some (pair_selected selected (without gone ps)) ≡ false → length (without gone ps) < length ps
lost-with gone selected ps there lost = by (nat_lt (length (without gone ps)) (length ps)) refl where
  by : (b : Bool) → nat_lt (length (without gone ps)) (length ps) ≡ b → length (without gone ps) < length ps
  by true is = grind (arith, nat_tests)
  by false is =
      let many : length ps ≤ length (without gone ps) = grind (arith, nat_tests) in
      let stays = found-there selected ps (without gone ps) (all-left (λ p. not (gone p)) ps many) in
      absurd (cc)

module _ {H P : Type 0} where
  fewer : (gone : PairRecord → Bool) (old new : AgentRecord H P) → new.pairs ≡ without gone old.pairs → new.selected_pair ≡ old.selected_pair
      → has_selected old ≡ true → has_selected new ≡ false → length new.pairs < length old.pairs
  fewer gone old new left same there lost =
      let moved = ap (λ o. is_some (pair_selected o new.pairs)) same ∙ ap (λ ps. is_some (pair_selected old.selected_pair ps)) left in
      rw (left) (lost-with gone old.selected_pair old.pairs there (sym moved ∙ lost))

  -- The selected pair is lost with its candidate: then there are fewer pairs.
  pub fewer-if-lost : (local remote : Option ℕ) (old new : AgentRecord H P) → InvalidatesAt local remote old true new → has_selected old ≡ true
      → has_selected new ≡ false → length new.pairs < length old.pairs
  fewer-if-lost (Some place) remote old new (found, is) there lost =
      fewer (is_local_at place) old new (ap (λ (a : AgentRecord H P). a.pairs) is) (ap (λ (a : AgentRecord H P). a.selected_pair) is) there lost
  fewer-if-lost None (Some place) old new (found, is) there lost =
      fewer (is_remote_at place) old new (ap (λ (a : AgentRecord H P). a.pairs) is) (ap (λ (a : AgentRecord H P). a.selected_pair) is) there lost
  fewer-if-lost None None old new (found, is) there lost = absurd (cc)

-- When a selected pair gives way, and that all pairs stay otherwise.
use Rattle.is_rules.specs.Again.{candidates_of}
use Rattle.is_theorems.proofs.Common.{awaits_nomination, find, is_due_next, is_overruled, left_after, numbers, option_map, option_or, needs_check}
use Rattle.is_theorems.proofs.Common.{[], ◌&&◌, ◌||◌, ◌∙◌, ◌∷◌, ◌≡◌, ◌≤◌, AgentRecord, ap, arith, Bool, false, filter}
use Rattle.is_theorems.proofs.Common.{gives_way, Has, hastened, if◌then◌else◌, inl, inr, is_eligible, is_modern, is_named_by}
use Rattle.is_theorems.proofs.Common.{is_nominated, is_silent_enough, is_valid, length, List, list_any, map, may_replace}
use Rattle.is_theorems.proofs.Common.{nat_le, nat_tests, None, not, Option, option_map_or, PairRecord, path_left}
use Rattle.is_theorems.proofs.Common.{refl, silence_of, Some, Span, true, unanswered-most, unanswered_count, ℕ}
use Rattle.is_theorems.proofs.RuleEffects.HastenedPairs.{none-hastened}
use Rattle.is_theorems.proofs.RuleEffects.UnhastenedPairs.{fourth-off, invalid-unneeded}

-- ---- lists

-- a filter that leaves all leaves the list
filter-all : {X : Type 0} (keep : X → Bool) (xs : List X) → ((x : X) → Has xs x → keep x ≡ true) → filter keep xs ≡ xs
filter-all keep [] all = refl
filter-all keep (x ∷ xs) all =
    ap (λ b. if b then x ∷ filter keep xs else filter keep xs) (all x (inl refl)) ∙ ap (λ ys. x ∷ ys) (filter-all keep xs (λ y has. all y (inr has)))

none-any : {X : Type 0} (test : X → Bool) (xs : List X) → ((x : X) → Has xs x → test x ≡ false) → list_any test xs ≡ false
none-any test [] none = refl
none-any test (x ∷ xs) none = ap (λ b. b || list_any test xs) (none x (inl refl)) ∙ none-any test xs (λ y has. none y (inr has))

none-found : {X : Type 0} (test : X → Bool) (xs : List X) → ((x : X) → Has xs x → test x ≡ false) → find test xs ≡ None
none-found test [] none = refl
none-found test (x ∷ xs) none = ap (λ b. if b then Some x else find test xs) (none x (inl refl)) ∙ none-found test xs (λ y has. none y (inr has))

or-none : (o : Option (ℕ × ℕ)) → option_or o None ≡ o
or-none None = refl
or-none (Some at) = refl

pub passes : {X : Type 0} (test : X → Bool) (xs : List X) → list_any test xs ≡ true → (x : X) × Has xs x × (test x ≡ true)
passes test [] h = absurd (let no : false ≡ true = h in cc)
passes {X} test (x ∷ xs) h = by (test x) refl h (passes test xs) where
  by : (b : Bool) → test x ≡ b → (b || list_any test xs) ≡ true → (list_any test xs ≡ true → (y : X) × Has xs y × (test y ≡ true)) → (y : X) × Has (x ∷ xs) y × (test y ≡ true)
  by true is h later = (x, inl refl, is)
  by false is h later = let k = later h in (k.0, inr k.1, k.2)

-- ---- when a pair gives way

le-from : (n m : ℕ) → nat_le n m ≡ true → n ≤ m
le-from n m h = grind (arith, nat_tests, h)

all-six : (a b c d e f : Bool) → (a && b && c && d && e && f) ≡ true
    → (a ≡ true) × (b ≡ true) × (c ≡ true) × (d ≡ true) × (e ≡ true) × (f ≡ true)
all-six true true true true true f h = (refl, refl, refl, refl, refl, h)
all-six true true true true false f h = absurd (let no : false ≡ true = h in cc)
all-six true true true false e f h = absurd (let no : false ≡ true = h in cc)
all-six true true false d e f h = absurd (let no : false ≡ true = h in cc)
all-six true false c d e f h = absurd (let no : false ≡ true = h in cc)
all-six false b c d e f h = absurd (let no : false ≡ true = h in cc)

right-on : (x y : Bool) → (x && y) ≡ true → y ≡ true
right-on true y h = h
right-on false y h = absurd (let no : false ≡ true = h in cc)

third-off : (a b c d e f : Bool) → c ≡ false → (a && b && c && d && e && f) ≡ false
third-off true true true d e f is = absurd (let no : true ≡ false = is in cc)
third-off true true false d e f is = refl
third-off true false c d e f is = refl
third-off false b c d e f is = refl

first-off : (a b c d e f : Bool) → a ≡ false → (a && b && c && d && e && f) ≡ false
first-off true b c d e f is = absurd (let no : true ≡ false = is in cc)
first-off false b c d e f is = refl

invalid-off : (v n : Bool) → v ≡ false → (v && n) ≡ false
invalid-off true n is = absurd (let no : true ≡ false = is in cc)
invalid-off false n is = refl

in-some : {X : Type 0} (f : X → Bool) (o : Option X) → option_map_or f o false ≡ true → (x : X) × (o ≡ Some x) × (f x ≡ true)
in-some f None h = absurd (let no : false ≡ true = h in cc)
in-some f (Some x) h = (x, refl, h)

is-full : (l : Bool) → not l ≡ true → l ≡ false
is-full true h = absurd (let no : false ≡ true = h in cc)
is-full false h = refl

module _ {H P : Type 0} where
  -- what the pair and another one are
  pub record GivesWay (now : ℕ) (a : AgentRecord H P) (p : PairRecord) : Type 0 where
    pub modern : is_modern a.timing ≡ true
    pub full : a.lite ≡ false
    pub selected : is_named_by a.selected_pair p ≡ true
    pub eligible : is_eligible a.controlling p ≡ true
    pub silent : a.timing.max_retransmits ≤ unanswered_count p.checks
    pub silence : Span
    pub lasts : silence_of p.checks ≡ Some silence
    pub other : PairRecord
    pub there : Has a.pairs other
    pub replaces : may_replace now a p.number silence other ≡ true

  pub gives-why : (now : ℕ) (a : AgentRecord H P) (p : PairRecord) → gives_way now a p ≡ true → GivesWay now a p
  gives-why now a p h = from parts where
    replaced : Span → Bool
    replaced silence = (is_silent_enough now a.timing p || is_overruled a p silence) && list_any (may_replace now a p.number silence) a.pairs

    Parts : Type 0
    Parts = (is_modern a.timing ≡ true) × (not a.lite ≡ true) × (is_named_by a.selected_pair p ≡ true) × (is_eligible a.controlling p ≡ true)
        × (nat_le a.timing.max_retransmits (unanswered_count p.checks) ≡ true) × (option_map_or replaced (silence_of p.checks) false ≡ true)

    parts : Parts
    parts = all-six (is_modern a.timing) (not a.lite) (is_named_by a.selected_pair p) (is_eligible a.controlling p)
        (nat_le a.timing.max_retransmits (unanswered_count p.checks)) (option_map_or replaced (silence_of p.checks) false) h

    from : Parts → GivesWay now a p
    from (modern, full, selected, eligible, silent, another) =
        let o = in-some replaced (silence_of p.checks) another in
        let some = right-on (is_silent_enough now a.timing p || is_overruled a p o.0) (list_any (may_replace now a p.number o.0) a.pairs) o.2 in
        let k = passes (may_replace now a p.number o.0) a.pairs some in record {
          modern = modern;
          full = is-full a.lite full;
          selected = selected;
          eligible = eligible;
          silent = le-from a.timing.max_retransmits (unanswered_count p.checks) silent;
          silence = o.0;
          lasts = o.1;
          other = k.0;
          there = k.1;
          replaces = k.2;
        }

  pub gives-stores : (now : ℕ) (a : AgentRecord H P) (p : PairRecord) → gives_way now a p ≡ true → a.timing.max_retransmits ≤ length p.checks
  gives-stores now a p h = let silent = (gives-why now a p h).silent in let most = unanswered-most p.checks in omega (arith, silent, most)

  -- ---- when all pairs stay

  pub none-left : (now : ℕ) (a : AgentRecord H P) → ((p : PairRecord) → Has a.pairs p → gives_way now a p ≡ false)
      → ((p : PairRecord) → Has a.pairs p → needs_check a p ≡ false) → path_left now a ≡ a
  none-left now a none unneeded =
      ap (λ ps. record a { pairs = map (hastened (is_due_next now a) now) ps; left = left_after now a }) (filter-all (λ p. not (gives_way now a p)) a.pairs (λ p has. ap not (none p has)))
      ∙ (ap (λ ps. record a { pairs = ps; left = left_after now a }) (none-hastened (is_due_next now a) now a.pairs (λ p has.
      ap (λ b. if b then awaits_nomination a.controlling p else needs_check a p) (none-any (gives_way now a) a.pairs none) ∙ unneeded p has))
      ∙ (ap (λ o. record a { left = option_or a.left (option_map candidates_of o) }) (none-found (gives_way now a) a.pairs none)
      ∙ ap (λ o. record a { left = o }) (or-none a.left)))

  -- no pair is valid
  pub invalid-stays : (now : ℕ) (a : AgentRecord H P) (p : PairRecord) → is_valid p ≡ false → gives_way now a p ≡ false
  invalid-stays now a p invalid =
      fourth-off (is_modern a.timing) (not a.lite) (is_named_by a.selected_pair p) (is_eligible a.controlling p) _ _ (invalid-off (is_valid p) (a.controlling || is_nominated p) invalid)

  pub none-valid-left : (now : ℕ) (a : AgentRecord H P) → ((p : PairRecord) → Has a.pairs p → is_valid p ≡ false) → path_left now a ≡ a
  none-valid-left now a none = none-left now a (λ p has. invalid-stays now a p (none p has)) (λ p has. invalid-unneeded a p (none p has))

  -- no pair is selected
  pub unselected-left : (now : ℕ) (a : AgentRecord H P) → a.selected_pair ≡ None → path_left now a ≡ a
  unselected-left now a none = none-left now a
      (λ p has. third-off (is_modern a.timing) (not a.lite) (is_named_by a.selected_pair p) _ _ _ (ap (λ o. is_named_by o p) none))
      (λ p has. fourth-off (is_modern a.timing) (not a.lite) (not (numbers a)) (is_named_by a.selected_pair p) _ _ (ap (λ o. is_named_by o p) none))

  -- the profile is `Original`
  pub original-left : (now : ℕ) (a : AgentRecord H P) → is_modern a.timing ≡ false → path_left now a ≡ a
  original-left now a off = none-left now a (λ p has. first-off (is_modern a.timing) _ _ _ _ _ off) (λ p has. first-off (is_modern a.timing) _ _ _ _ _ off)

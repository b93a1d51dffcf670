-- Eviction leaves a cut of the list.
use Rattle.is_rules.specs.Cuts.{IsCut}
use Rattle.is_rules.proofs.Common.{[], ◌&&◌, ◌+◌, ◌<◌, ◌==◌, ◌∙◌, ◌∷◌, ◌≡◌, ◌≤◌, ap, arith, Bool, common_steps, EvictsInTurn, false, filter}
use Rattle.is_rules.proofs.Common.{Has, if◌then◌else◌, inl, inr, is_numbered, length, List, not, PairRecord, refl, subst, suc, sym, true}
use Rattle.is_rules.proofs.Common.{without, ℕ}
use Rattle.is_rules.proofs.PairLists.RisingNumbers.{AreRising}

-- the pairs except the one with the number
abbrev is_other : ℕ → PairRecord → Bool
is_other n p = not (is_numbered n p)

abbrev pub others : ℕ → List PairRecord → List PairRecord
others n pairs = without (is_numbered n) pairs

false-is-true : {A : Type 0} (b : Bool) → b ≡ false → b ≡ true → A
false-is-true b fails passes = absurd (cc)

-- ---- lists

pub filter-all : {X : Type 0} (xs : List X) → xs ≡ filter (λ x. true) xs
filter-all [] = refl
filter-all (x ∷ xs) = ap (λ ys. x ∷ ys) (filter-all xs)

pub filter-both : {X : Type 0} (t u : X → Bool) (xs : List X) → filter u (filter t xs) ≡ filter (λ x. t x && u x) xs
filter-both t u [] = refl
filter-both t u (x ∷ xs) =
    elim (t x) as (λ b. filter u (if b then x ∷ filter t xs else filter t xs) ≡ (if b && u x then x ∷ filter (λ y. t y && u y) xs else filter (λ y. t y && u y) xs)) [
      | true ↦ elim (u x) as (λ d. (if d then x ∷ filter u (filter t xs) else filter u (filter t xs)) ≡ (if d then x ∷ filter (λ y. t y && u y) xs else filter (λ y. t y && u y) xs)) [
        | true ↦ ap (λ ys. x ∷ ys) (filter-both t u xs)
        | false ↦ filter-both t u xs
      ]
      | false ↦ filter-both t u xs
    ]

-- x ∷ ys has what ys has
has-more : {X : Type 0} (x q : X) (xs ys : List X) → (Has ys q → Has xs q) → Has (x ∷ ys) q → Has (x ∷ xs) q
has-more x q xs ys more (inl e) = inl e
has-more x q xs ys more (inr h) = inr (more h)

has-following : {X : Type 0} (x q : X) (xs ys : List X) → (x ≡ q → Has ys q) → (Has xs q → Has ys q) → Has (x ∷ xs) q → Has ys q
has-following x q xs ys first more (inl e) = first e
has-following x q xs ys first more (inr h) = more h

pub filtered-had : {X : Type 0} (t : X → Bool) (xs : List X) (q : X) → Has (filter t xs) q → Has xs q
filtered-had t [] q h = h
filtered-had t (x ∷ xs) q h =
    elim (t x) as (λ b. Has (if b then x ∷ filter t xs else filter t xs) q → Has (x ∷ xs) q) [
      | true ↦ λ h. has-more x q xs (filter t xs) (filtered-had t xs q) h
      | false ↦ λ h. inr (filtered-had t xs q h)
    ] h

pub has-filtered : {X : Type 0} (t : X → Bool) (xs : List X) (q : X) → Has xs q → t q ≡ true → Has (filter t xs) q
has-filtered t [] q h passes = h
has-filtered t (x ∷ xs) q h passes =
    elim (t x) as (λ b. t x ≡ b → Has (if b then x ∷ filter t xs else filter t xs) q) [
      | true ↦ λ is. has-more x q (filter t xs) xs (λ h. has-filtered t xs q h passes) h
      | false ↦ λ is. has-following x q xs (filter t xs) (λ e. false-is-true (t x) is (ap t e ∙ passes)) (λ h. has-filtered t xs q h passes) h
    ] refl

-- ---- numbers

pub rising-filter : (t : PairRecord → Bool) (xs : List PairRecord) → AreRising xs → AreRising (filter t xs)
rising-filter t [] h = h
rising-filter t (x ∷ xs) h =
    elim (t x) as (λ b. AreRising (if b then x ∷ filter t xs else filter t xs)) [
      | true ↦ ((λ q its. h.0 q (filtered-had t xs q its)), rising-filter t xs h.1)
      | false ↦ rising-filter t xs h.1
    ]

-- a number names one pair
pub named-once : (xs : List PairRecord) (p q : PairRecord) → AreRising xs → Has xs p → Has xs q → p.number ≡ q.number → p ≡ q
named-once [] p q h a b same = elim a [ ]
named-once (x ∷ xs) p q h (inl a) (inl b) same = sym a ∙ b
named-once (x ∷ xs) p q h (inl a) (inr b) same = let above = h.0 q b in absurd (omega (arith, above, same, ap (λ (r : PairRecord). r.number) a))
named-once (x ∷ xs) p q h (inr a) (inl b) same = let above = h.0 p a in absurd (omega (arith, above, same, ap (λ (r : PairRecord). r.number) b))
named-once (x ∷ xs) p q h (inr a) (inr b) same = named-once xs p q h.1 a b same

-- at most one pair is removed
all-stay : (n : ℕ) (xs : List PairRecord) → ((q : PairRecord) → Has xs q → n < q.number) → length (others n xs) ≡ length xs
all-stay n [] above = refl
all-stay n (x ∷ xs) above =
    let other : x.number == n ≡ false = grind (arith, common_steps, above x (inl refl)) in
    rw other (ap suc (all-stay n xs (λ q h. above q (inr h))))

pub one-goes : (n : ℕ) (xs : List PairRecord) → AreRising xs → length xs ≤ length (others n xs) + 1
one-goes n [] h = omega arith
one-goes n (x ∷ xs) h =
    elim (x.number == n) as (λ b. x.number == n ≡ b → suc (length xs) ≤ length (if not b then x ∷ others n xs else others n xs) + 1) [
      | true ↦ λ is.
          let same : x.number ≡ n = grind (arith, common_steps, is) in
          let stay = all-stay n xs (λ q its. let above = h.0 q its in omega (arith, above, same)) in
          omega (arith, stay)
      | false ↦ λ is. let rest = one-goes n xs h.1 in omega (arith, rest)
    ] refl

pub goes : (limit : ℕ) (gone old new : List PairRecord) → AreRising old → EvictsInTurn limit gone old new → IsCut limit old new
goes limit [] old new rising h = (
  (λ p. true),
  h.1 ∙ filter-all old,
  rw h.1 (omega (arith, h.0)),
  λ p q its out stays. absurd (cc),
)
goes limit (p ∷ gone) old new rising h =
    let n = p.number in
    let rest = goes limit gone (others n old) new (rising-filter (is_other n) old rising) h.2 in
    let few = one-goes n old rising in
    let here : Has old p = h.1.0 in (
      (λ q. is_other n q && rest.0 q),
      rest.1 ∙ filter-both (is_other n) rest.0 old,
      omega (arith, few, rest.2, h.0),
      λ q r its out stays. elim (q.number == n) as (λ b. q.number == n ≡ b → (not b && rest.0 q) ≡ false → q.priority ≤ r.priority) [
        | true ↦ λ is none.
            let same : n ≡ q.number = grind (arith, common_steps, is) in
            let one = named-once old p q rising here its same in
            let left = filtered-had rest.0 (others n old) r (subst (λ (xs : List PairRecord). Has xs r) rest.1 stays) in
            let low = h.1.1 r (filtered-had (is_other n) old r left) in
            omega (arith, low, ap (λ (x : PairRecord). x.priority) one)
        | false ↦ λ is none. rest.3 q r (has-filtered (is_other n) old q its (ap not is)) none stays
      ] refl out,
    )

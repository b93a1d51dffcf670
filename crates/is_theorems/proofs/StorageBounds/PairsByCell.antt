-- The cells of pairs: the indices of their two candidates. A list has at most one pair for each cell whose local index passes a test,
-- apart from repeated cells.
use Rattle.is_theorems.proofs.Common.{[], ◌&&◌, ◌*◌, ◌++◌, ◌+◌, ◌<◌, ◌==◌, ◌||◌, ◌∙◌, ◌∷◌, ◌≡◌, ◌≤◌, add-mul, ap, arith, Bool, Combination}
use Rattle.is_theorems.proofs.Common.{cond, eq-eqb, eqb-true, false, filter, Has, if◌then◌else◌, inl, inr, length, length-map, List}
use Rattle.is_theorems.proofs.Common.{list_any, ltb-false, ltb-true, map, nat_lt, not, PairRecord, refl, slice_get, slice_set, Some, subst}
use Rattle.is_theorems.proofs.Common.{suc, suc-mul, sym, true, zero, ℕ}
use Rattle.is_theorems.proofs.BasicLemmas.EqualAddresses.{both}
use Rattle.is_theorems.proofs.RuleEffects.ChangedPairs.{Has-map}
use Rattle.is_theorems.proofs.BasicLemmas.UsernamesAndFirstMatches.{neither}
use Rattle.is_theorems.proofs.RuleEffects.SelectedPaths.{some_is}

abbrev pub is_cell : Combination → Combination → Bool
is_cell c d = d.0 == c.0 && d.1 == c.1

-- how many cells have a local index that does not pass, or come again later in the list
abbrev pub extras : (ℕ → Bool) → List Combination → ℕ
extras own [] = 0
extras own (c ∷ cs) = cond (not (own c.0) || list_any (is_cell c) cs) 1 0 + extras own cs

abbrev pub cell_of : PairRecord → Combination
cell_of p = (p.local, p.remote)

abbrev pub cells : List PairRecord → List Combination
cells ps = map cell_of ps

-- ---- truth values

or-true : (a b : Bool) → b ≡ true → (a || b) ≡ true
or-true true b h = refl
or-true false b h = h

or-mono : (a b c : Bool) → (a || b) ≡ true → (b ≡ true → c ≡ true) → (a || c) ≡ true
or-mono true b c h f = refl
or-mono false b c h f = f h

and-true : (a b : Bool) → a ≡ true → b ≡ true → (a && b) ≡ true
and-true true b h k = k
and-true false b h k = absurd (cc)

no-more : (a b : Bool) → (a ≡ true → b ≡ true) → b ≡ false → a ≡ false
no-more true b f none = absurd (let no : true ≡ false = sym (f refl) ∙ none in cc)
no-more false b f none = refl

one-le : (a b : Bool) → (a ≡ true → b ≡ true) → cond a 1 0 ≤ cond b 1 0
one-le true b f = subst (λ (x : Bool). 1 ≤ cond x 1 0) (sym (f refl)) (omega arith)
one-le false b f = omega arith

sums : (a b c d : ℕ) → a ≤ b → c ≤ d → a + c ≤ b + d
sums a b c d h k = omega (arith, h, k)

-- ---- changes of a list

pub cells-map : (f : PairRecord → PairRecord) → ((p : PairRecord) → cell_of (f p) ≡ cell_of p) → (ps : List PairRecord) → cells (map f ps) ≡ cells ps
cells-map f h [] = refl
cells-map f h (p ∷ ps) =
    ap (λ (c : Combination). c ∷ cells (map f ps)) (h p) ∙ ap (λ (cs : List Combination). cell_of p ∷ cs) (cells-map f h ps)

pub cells-set : (ps : List PairRecord) (i : ℕ) (p after : PairRecord) → slice_get ps i ≡ Some p → cell_of after ≡ cell_of p → cells (slice_set ps i after) ≡ cells ps
cells-set [] i p after at e = refl
cells-set (x ∷ xs) zero p after at e =
    ap (λ (c : Combination). c ∷ cells xs) (e ∙ ap (λ (y : PairRecord). cell_of y) (sym (some_is x p at)))
cells-set (x ∷ xs) (suc i) p after at e = ap (λ (cs : List Combination). cell_of x ∷ cs) (cells-set xs i p after at e)

any-fewer : (c : Combination) (keep : PairRecord → Bool) (ps : List PairRecord) → list_any (is_cell c) (cells (filter keep ps)) ≡ true → list_any (is_cell c) (cells ps) ≡ true
any-fewer c keep [] h = h
any-fewer c keep (p ∷ ps) h = by (keep p) h (any-fewer c keep ps) where
  by : (b : Bool) → list_any (is_cell c) (cells (if b then p ∷ filter keep ps else filter keep ps)) ≡ true
      → (list_any (is_cell c) (cells (filter keep ps)) ≡ true → list_any (is_cell c) (cells ps) ≡ true)
      → list_any (is_cell c) (cells (p ∷ ps)) ≡ true
  by true h rest = or-mono (is_cell c (cell_of p)) (list_any (is_cell c) (cells (filter keep ps))) (list_any (is_cell c) (cells ps)) h rest
  by false h rest = or-true (is_cell c (cell_of p)) (list_any (is_cell c) (cells ps)) (rest h)

-- removed pairs leave no more such cells
pub extras-filter : (own : ℕ → Bool) (keep : PairRecord → Bool) (ps : List PairRecord) → extras own (cells (filter keep ps)) ≤ extras own (cells ps)
extras-filter own keep [] = omega arith
extras-filter own keep (p ∷ ps) = kept (keep p) (extras-filter own keep ps) where
  kept : (b : Bool) → extras own (cells (filter keep ps)) ≤ extras own (cells ps)
      → extras own (cells (if b then p ∷ filter keep ps else filter keep ps)) ≤ extras own (cells (p ∷ ps))
  kept true le =
      sums (cond (not (own p.local) || list_any (is_cell (cell_of p)) (cells (filter keep ps))) 1 0) (cond (not (own p.local) || list_any (is_cell (cell_of p)) (cells ps)) 1 0)
      (extras own (cells (filter keep ps))) (extras own (cells ps))
      (one-le (not (own p.local) || list_any (is_cell (cell_of p)) (cells (filter keep ps))) (not (own p.local) || list_any (is_cell (cell_of p)) (cells ps))
      (λ h. or-mono (not (own p.local)) (list_any (is_cell (cell_of p)) (cells (filter keep ps))) (list_any (is_cell (cell_of p)) (cells ps)) h (any-fewer (cell_of p) keep ps))) le
  kept false le = following (cond (not (own p.local) || list_any (is_cell (cell_of p)) (cells ps)) 1 0) (extras own (cells (filter keep ps))) (extras own (cells ps)) le where
    following : (a b c : ℕ) → b ≤ c → b ≤ a + c
    following a b c h = omega (arith, h)

pub extras-length : (own : ℕ → Bool) (cs : List Combination) → extras own cs ≤ length cs
extras-length own [] = omega arith
extras-length own (c ∷ cs) = by (not (own c.0) || list_any (is_cell c) cs) (extras-length own cs) where
  by : (b : Bool) → extras own cs ≤ length cs → cond b 1 0 + extras own cs ≤ length (c ∷ cs)
  by true le = omega (arith, le)
  by false le = omega (arith, le)

-- only the local indices of the cells are tested
pub extras-agree : (own other : ℕ → Bool) (cs : List Combination) → ((c : Combination) → Has cs c → own c.0 ≡ other c.0) → extras own cs ≡ extras other cs
extras-agree own other [] same = refl
extras-agree own other (c ∷ cs) same =
    ap (λ (b : Bool). cond (not b || list_any (is_cell c) cs) 1 0 + extras own cs) (same c (inl refl))
    ∙ ap (λ (n : ℕ). cond (not (other c.0) || list_any (is_cell c) cs) 1 0 + n) (extras-agree own other cs (λ d has. same d (inr has)))

-- a pair for a new cell
reversed_path : (c d : Combination) → is_cell d c ≡ true → is_cell c d ≡ true
reversed_path c d h =
    let k = both (c.0 == d.0) (c.1 == d.1) h in
    and-true (d.0 == c.0) (d.1 == c.1) (eq-eqb d.0 c.0 (sym (eqb-true c.0 d.0 k.0))) (eq-eqb d.1 c.1 (sym (eqb-true c.1 d.1 k.1)))

push-any : (x c : Combination) (cs : List Combination) → is_cell x c ≡ false → list_any (is_cell x) (cs ++ c ∷ []) ≡ list_any (is_cell x) cs
push-any x c [] off = rw off refl
push-any x c (y ∷ ys) off = ap (λ (b : Bool). is_cell x y || b) (push-any x c ys off)

extras-push : (own : ℕ → Bool) (cs : List Combination) (c : Combination) → own c.0 ≡ true → list_any (is_cell c) cs ≡ false → extras own (cs ++ c ∷ []) ≡ extras own cs
extras-push own [] c its none = ap (λ (b : Bool). cond (not b || false) 1 0 + 0) its
extras-push own (x ∷ xs) c its none =
    let k = neither (is_cell c x) (list_any (is_cell c) xs) none in
    let off = no-more (is_cell x c) (is_cell c x) (reversed_path c x) k.0 in
    ap (λ (b : Bool). cond (not (own x.0) || b) 1 0 + extras own (xs ++ c ∷ [])) (push-any x c xs off)
    ∙ ap (λ (n : ℕ). cond (not (own x.0) || list_any (is_cell x) xs) 1 0 + n) (extras-push own xs c its k.1)

cells-push : (ps : List PairRecord) (p : PairRecord) → cells (ps ++ p ∷ []) ≡ cells ps ++ cell_of p ∷ []
cells-push [] p = refl
cells-push (x ∷ xs) p = ap (λ (cs : List Combination). cell_of x ∷ cs) (cells-push xs p)

pub extras-new : (own : ℕ → Bool) (ps : List PairRecord) (p : PairRecord) → own p.local ≡ true → list_any (is_cell (cell_of p)) (cells ps) ≡ false
    → extras own (cells (ps ++ p ∷ [])) ≡ extras own (cells ps)
extras-new own ps p its none = ap (λ (cs : List Combination). extras own cs) (cells-push ps p) ∙ extras-push own (cells ps) (cell_of p) its none

-- ---- sums over indices

abbrev pub total : (ℕ → ℕ) → ℕ → ℕ
total f zero = 0
total f (suc n) = f n + total f n

-- the first index apart
pub total-first : (f : ℕ → ℕ) (n : ℕ) → total f (suc n) ≡ f 0 + total (λ k. f (suc k)) n
total-first f zero = refl
total-first f (suc n) = later (f (suc n)) (f 0) (total f (suc n)) (total (λ k. f (suc k)) n) (total-first f n) where
  later : (a b c d : ℕ) → c ≡ b + d → a + c ≡ b + (a + d)
  later a b c d e = omega (arith, e)

total-le : (f g : ℕ → ℕ) → ((k : ℕ) → f k ≤ g k) → (n : ℕ) → total f n ≤ total g n
total-le f g le zero = omega arith
total-le f g le (suc n) = sums (f n) (g n) (total f n) (total g n) (le n) (total-le f g le n)

total-more : (f g : ℕ → ℕ) → ((k : ℕ) → f k ≤ g k) → (j : ℕ) → f j + 1 ≤ g j → (n : ℕ) → j < n → total f n + 1 ≤ total g n
total-more f g le j more zero lt = absurd (let no : ⊥ = omega (arith, lt) in no)
total-more f g le j more (suc n) lt = by (nat_lt j n) refl (λ below. total-more f g le j more n below) where
  by : (b : Bool) → nat_lt j n ≡ b → (j < n → total f n + 1 ≤ total g n) → total f (suc n) + 1 ≤ total g (suc n)
  by true e rest = later (f n) (g n) (total f n) (total g n) (le n) (rest (ltb-true j n e)) where
    later : (a b c d : ℕ) → a ≤ b → c + 1 ≤ d → (a + c) + 1 ≤ b + d
    later a b c d h k = omega (arith, h, k)
  by false e rest =
      let last : n ≤ j = ltb-false j n e in
      let here : j ≡ n = omega (arith, lt, last) in
      now (f n) (g n) (total f n) (total g n) (subst (λ (k : ℕ). f k + 1 ≤ g k) here more) (total-le f g le n) where
        now : (a b c d : ℕ) → a + 1 ≤ b → c ≤ d → (a + c) + 1 ≤ b + d
        now a b c d h k = omega (arith, h, k)

total-most : (f : ℕ → ℕ) (most : ℕ) → ((k : ℕ) → f k ≤ most) → (n : ℕ) → total f n ≤ n * most
total-most f most le zero = omega arith
total-most f most le (suc n) =
    subst (λ (k : ℕ). f n + total f n ≤ k) (sym (suc-mul n most)) (swapped (f n) (total f n) most (n * most) (le n) (total-most f most le n)) where
      swapped : (a b c d : ℕ) → a ≤ c → b ≤ d → a + b ≤ d + c
      swapped a b c d h k = omega (arith, h, k)

-- ---- the cells of a grid

abbrev here : List Combination → ℕ → ℕ → ℕ
here cs l r = cond (list_any (is_cell (l, r)) cs) 1 0

abbrev row : List Combination → ℕ → ℕ → ℕ
row cs n l = total (here cs l) n

-- the row, if its local index passes
abbrev own-row : (ℕ → Bool) → List Combination → ℕ → ℕ → ℕ
own-row own cs n l = cond (own l) (row cs n l) 0

-- how many cells of the grid are in the list, and have a local index that passes
abbrev hits : (ℕ → Bool) → List Combination → ℕ → ℕ → ℕ
hits own cs m n = total (own-row own cs n) m

-- how many of the first indices pass
abbrev pub owned : (ℕ → Bool) → ℕ → ℕ
owned own m = total (λ l. cond (own l) 1 0) m

here-one : (cs : List Combination) (l r : ℕ) → here cs l r ≤ 1
here-one cs l r = by (list_any (is_cell (l, r)) cs) where
  by : (b : Bool) → cond b 1 0 ≤ 1
  by true = omega arith
  by false = omega arith

row-most : (cs : List Combination) (n l : ℕ) → row cs n l ≤ n
row-most cs n l = let k : total (here cs l) n ≤ n * 1 = total-most (here cs l) 1 (here-one cs l) n in omega (arith, k)

hits-most : (own : ℕ → Bool) (cs : List Combination) (m n : ℕ) → hits own cs m n ≤ owned own m * n
hits-most own cs zero n = omega arith
hits-most own cs (suc m) n = by (own m) (hits-most own cs m n) where
  by : (b : Bool) → hits own cs m n ≤ owned own m * n → cond b (row cs n m) 0 + hits own cs m n ≤ (cond b 1 0 + owned own m) * n
  by true le =
      let most = row-most cs n m in
      let all : (1 + owned own m) * n ≡ 1 * n + owned own m * n = add-mul 1 (owned own m) n in
      omega (arith, le, most, all)
  by false le = let all : (0 + owned own m) * n ≡ 0 * n + owned own m * n = add-mul 0 (owned own m) n in omega (arith, le, all)

here-grows : (c : Combination) (cs : List Combination) (l r : ℕ) → here cs l r ≤ here (c ∷ cs) l r
here-grows c cs l r =
    one-le (list_any (is_cell (l, r)) cs) (list_any (is_cell (l, r)) (c ∷ cs)) (λ h. or-true (is_cell (l, r) c) (list_any (is_cell (l, r)) cs) h)

row-grows : (c : Combination) (cs : List Combination) (n l : ℕ) → row cs n l ≤ row (c ∷ cs) n l
row-grows c cs n l = total-le (here cs l) (here (c ∷ cs) l) (here-grows c cs l) n

own-grows : (own : ℕ → Bool) (c : Combination) (cs : List Combination) (n l : ℕ) → own-row own cs n l ≤ own-row own (c ∷ cs) n l
own-grows own c cs n l = by (own l) where
  by : (b : Bool) → cond b (row cs n l) 0 ≤ cond b (row (c ∷ cs) n l) 0
  by true = row-grows c cs n l
  by false = omega arith

at-itself : (c : Combination) (b : Bool) → (is_cell c c || b) ≡ true
at-itself c b = rw (and-true (c.0 == c.0) (c.1 == c.1) (eq-eqb c.0 c.0 refl) (eq-eqb c.1 c.1 refl)) refl

-- a cell that is in the list for the first time
here-more : (c : Combination) (cs : List Combination) → list_any (is_cell c) cs ≡ false → here cs c.0 c.1 + 1 ≤ here (c ∷ cs) c.0 c.1
here-more c cs none =
    let was : here cs c.0 c.1 ≡ 0 = ap (λ (b : Bool). cond b 1 0) none in
    let now : here (c ∷ cs) c.0 c.1 ≡ 1 = ap (λ (b : Bool). cond b 1 0) (at-itself c (list_any (is_cell c) cs)) in
    omega (arith, was, now)

abbrev IsIn : ℕ → ℕ → Combination → Type 0
IsIn m n c = (c.0 < m) × (c.1 < n)

own-more : (b : Bool) (x y : ℕ) → not b ≡ false → x + 1 ≤ y → cond b x 0 + 1 ≤ cond b y 0
own-more true x y h more = more
own-more false x y h more = absurd (cc)

each-once : (own : ℕ → Bool) (cs : List Combination) (m n : ℕ) → ((c : Combination) → Has cs c → IsIn m n c) → length cs ≤ extras own cs + hits own cs m n
each-once own [] m n inside = omega arith
each-once own (c ∷ cs) m n inside = by (not (own c.0) || list_any (is_cell c) cs) refl (each-once own cs m n (λ d has. inside d (inr has))) where
  by : (b : Bool) → (not (own c.0) || list_any (is_cell c) cs) ≡ b → length cs ≤ extras own cs + hits own cs m n → length (c ∷ cs) ≤ extras own (c ∷ cs) + hits own (c ∷ cs) m n
  by true e le =
      let again : extras own (c ∷ cs) ≡ 1 + extras own cs = ap (λ (b : Bool). cond b 1 0 + extras own cs) e in
      let grown : hits own cs m n ≤ hits own (c ∷ cs) m n = total-le (own-row own cs n) (own-row own (c ∷ cs) n) (own-grows own c cs n) m in
      omega (arith, le, again, grown)
  by false e le =
      let once : extras own (c ∷ cs) ≡ 0 + extras own cs = ap (λ (b : Bool). cond b 1 0 + extras own cs) e in
      let off = neither (not (own c.0)) (list_any (is_cell c) cs) e in
      let k = inside c (inl refl) in
      let wider : row cs n c.0 + 1 ≤ row (c ∷ cs) n c.0 =
      total-more (here cs c.0) (here (c ∷ cs) c.0) (here-grows c cs c.0) c.1 (here-more c cs off.1) n k.1 in
      let its : own-row own cs n c.0 + 1 ≤ own-row own (c ∷ cs) n c.0 = own-more (own c.0) (row cs n c.0) (row (c ∷ cs) n c.0) off.0 wider in
      let grown : hits own cs m n + 1 ≤ hits own (c ∷ cs) m n = total-more (own-row own cs n) (own-row own (c ∷ cs) n) (own-grows own c cs n) c.0 its m k.0 in
      omega (arith, le, once, grown)

-- at most one pair for each cell whose local index passes, and one for each other or repeated cell
pub pairs-in-grid : (own : ℕ → Bool) (ps : List PairRecord) (m n : ℕ) → ((p : PairRecord) → Has ps p → (p.local < m) × (p.remote < n))
    → length ps ≤ extras own (cells ps) + owned own m * n
pairs-in-grid own ps m n inside =
    let all : length (cells ps) ≡ length ps = length-map ps cell_of in
    let le = each-once own (cells ps) m n (λ c has. placed c (Has-map cell_of ps c has)) in
    let most = hits-most own (cells ps) m n in
    along (length ps) (length (cells ps)) (extras own (cells ps)) (hits own (cells ps) m n) (owned own m * n) all le most where
      placed : (c : Combination) → ((p : PairRecord) × Has ps p × (cell_of p ≡ c)) → IsIn m n c
      placed c (p, has, is) = subst (λ (d : Combination). IsIn m n d) is (inside p has)

      along : (a b r h k : ℕ) → b ≡ a → b ≤ r + h → h ≤ k → a ≤ r + k
      along a b r h k e f g = omega (arith, e, f, g)

-- A bound on the number of checks of other pairs before that of a pair which is due by a given time, and the steps
-- that do not increase it.
use Rattle.is_pair.specs.declared.pair.states.NominationState.TheVariants.{None as Unnominated}
use Rattle.is_theorems.proofs.Common.{[], ◌*◌, ◌++◌, ◌+◌, ◌-◌, ◌<◌, ◌==◌, ◌||◌, ◌∙◌, ◌∷◌, ◌≡◌, ◌≤◌, ◌⊎◌, answered, answered_at, ap, arith}
use Rattle.is_theorems.proofs.Common.{scheduled, Attempt, Bool, Check, check_of, checked, computed_due_time, drop, drop-append-le, eq-eqb}
use Rattle.is_theorems.proofs.Common.{false, filter, get_or-append_seam, Has, if◌then◌else◌, inl, inr, is_numbered, last_check, last_checks}
use Rattle.is_theorems.proofs.Common.{later, length, List, map, MAX, min, nat_le, nat_tests, next_due_time, Nominated, nomination_again}
use Rattle.is_theorems.proofs.Common.{nomination_once_answered, nomination_once_sent, NominationState, None, one_if, Option, option_map_or}
use Rattle.is_theorems.proofs.Common.{PairRecord, refl, slice_get, slice_get-get_or, slice_set, Some, StunTiming, subst, suc, Success, sym}
use Rattle.is_theorems.proofs.Common.{true, unwrap_or, zero, ℕ}
use Rattle.is_theorems.proofs.RuleEffects.SelectedPaths.{some_is}

pub le-from : (n m : ℕ) → nat_le n m ≡ true → n ≤ m
le-from n m h = grind (arith, nat_tests, h)

pub le-is : (n m : ℕ) → n ≤ m → nat_le n m ≡ true
le-is n m h = grind (arith, nat_tests, h)

pub le-not : (n m : ℕ) → m < n → nat_le n m ≡ false
le-not n m h = grind (arith, nat_tests, h)

pub le-fails : (n m : ℕ) → nat_le n m ≡ false → m < n
le-fails n m h = grind (arith, nat_tests, h)

-- ---- the last check

-- it was sent by a time
abbrev pub sent_by : ℕ → List Check → Bool
sent_by by cs = option_map_or (λ c. nat_le c.sent by) (last_check cs) false

length-last : (front : List Check) (c : Check) → length (front ++ c ∷ []) ≡ length front + 1
length-last [] c = omega arith
length-last (x ∷ xs) c = let k : length (xs ++ c ∷ []) ≡ length xs + 1 = length-last xs c in omega (arith, k)

last-is : (front : List Check) (c : Check) → last_check (front ++ c ∷ []) ≡ Some c
last-is front c =
    let long : length (front ++ c ∷ []) ≡ length front + 1 = length-last front c in
    let place : length (front ++ c ∷ []) - 1 ≡ length front = omega (arith, long) in
    ap (slice_get (front ++ c ∷ [])) place
    ∙ (slice_get-get_or (front ++ c ∷ []) (length front) c (omega (arith, long)) ∙ ap Some (get_or-append_seam front c [] c))

kept-last : (n : ℕ) (cs : List Check) (c : Check) → 0 < n → last_check (last_checks n (cs ++ c ∷ [])) ≡ Some c
kept-last n cs c some =
    let long : length (cs ++ c ∷ []) ≡ length cs + 1 = length-last cs c in
    let few : length (cs ++ c ∷ []) - n ≤ length cs = omega (arith, long, some) in
    ap last_check (drop-append-le (length (cs ++ c ∷ []) - n) cs (c ∷ []) few) ∙ last-is (drop (length (cs ++ c ∷ []) - n) cs) c

sent-late : (by now n : ℕ) (cs : List Check) (c : Check) → by < now → 0 < n → c.sent ≡ now → sent_by by (last_checks n (cs ++ c ∷ [])) ≡ false
sent-late by now n cs c late some sent =
    ap (λ (o : Option Check). option_map_or (λ d. nat_le d.sent by) o false) (kept-last n cs c some) ∙ (ap (λ k. nat_le k by) sent ∙ le-not now by late)

-- a response leaves when the check was sent
length-set : (xs : List Check) (i : ℕ) (y : Check) → length (slice_set xs i y) ≡ length xs
length-set [] i y = refl
length-set (x ∷ xs) zero y = refl
length-set (x ∷ xs) (suc i) y = ap suc (length-set xs i y)

sent-at : (by : ℕ) (xs : List Check) (i j : ℕ) (x y : Check) → slice_get xs i ≡ Some x → y.sent ≡ x.sent
    → option_map_or (λ c. nat_le c.sent by) (slice_get (slice_set xs i y) j) false ≡ option_map_or (λ c. nat_le c.sent by) (slice_get xs j) false
sent-at by [] i j x y at same = refl
sent-at by (c ∷ cs) zero zero x y at same = ap (λ k. nat_le k by) (same ∙ ap (λ (d : Check). d.sent) (sym (some_is c x at)))
sent-at by (c ∷ cs) zero (suc j) x y at same = refl
sent-at by (c ∷ cs) (suc i) zero x y at same = refl
sent-at by (c ∷ cs) (suc i) (suc j) x y at same = sent-at by cs i j x y at same

sent-answered : (by : ℕ) (xs : List Check) (i : ℕ) (x y : Check) → slice_get xs i ≡ Some x → y.sent ≡ x.sent → sent_by by (slice_set xs i y) ≡ sent_by by xs
sent-answered by xs i x y at same =
    ap (λ n. option_map_or (λ c. nat_le c.sent by) (slice_get (slice_set xs i y) (n - 1)) false) (length-set xs i y)
    ∙ sent-at by xs i (length xs - 1) x y at same

-- ---- one pair

-- its due time is fixed and is no later than that time, or may be computed as such
abbrev pub is_early : ℕ → Option ℕ → List Check → Bool
is_early by due cs = option_map_or (λ at. nat_le at by) due false || sent_by by cs

-- one check if the pair may be due by then itself, and one when it is nominated, because it goes first then: that one counts only if
-- nominations do
abbrev pub weight : Bool → NominationState → Bool → ℕ
weight both Unnominated early = one_if early + one_if both
weight both Nominated early = one_if both
weight both Attempt early = one_if early
weight both Success early = one_if early

abbrev pub lead : Bool → ℕ → PairRecord → ℕ
lead both by p = weight both p.nomination (is_early by p.due p.checks)

less-early : (both : Bool) (n : NominationState) (a b : Bool) → (a ≡ true → b ≡ true) → weight both n a ≤ weight both n b
less-early both n true false h = let no : false ≡ true = h refl in absurd (cc)
less-early both n true true h = omega arith
less-early both n false false h = omega arith
less-early both Unnominated false true h = omega arith
less-early both Nominated false true h = omega arith
less-early both Attempt false true h = omega arith
less-early both Success false true h = omega arith

-- it was not nominated, and is
abbrev pub Becomes : NominationState → NominationState → Type 0
Becomes n m = (n ≡ Unnominated) × ((m ≡ Nominated) ⊎ (m ≡ Success))

pub weight-becomes : (both : Bool) (n m : NominationState) (e : Bool) → (m ≡ n) ⊎ Becomes n m → weight both m e ≤ weight both n e
weight-becomes both n m e (inl same) = subst (λ k. weight both k e ≤ weight both n e) (sym same) (omega arith)
weight-becomes both n m e (inr (was, inl now)) =
    subst (λ k. weight both k e ≤ weight both n e) (sym now) (subst (λ k. one_if both ≤ weight both k e) (sym was) (omega arith))
weight-becomes both n m e (inr (was, inr now)) =
    subst (λ k. weight both k e ≤ weight both n e) (sym now) (subst (λ k. one_if e ≤ weight both k e) (sym was) (omega arith))

weight-answered : (both b : Bool) (n : NominationState) (e : Bool) → weight both (nomination_once_answered b n) e ≤ weight both n e
weight-answered both true Unnominated e = omega arith
weight-answered both true Nominated e = omega arith
weight-answered both true Attempt e = omega arith
weight-answered both true Success e = omega arith
weight-answered both false n e = omega arith

-- a check uses one up, also one of a pair that is nominated, if that counts
abbrev pub Counts : Bool → NominationState → Type 0
Counts both n = (both ≡ true) ⊎ (n ≡ Nominated → ⊥)

pub weight-sent : (both : Bool) (n : NominationState) → Counts both n → weight both (nomination_once_sent n) false + 1 ≤ weight both n true
weight-sent true Unnominated counts = omega arith
weight-sent false Unnominated counts = omega arith
weight-sent true Nominated counts = omega arith
weight-sent false Nominated (inl counted) = absurd (let none : false ≡ true = counted in cc)
weight-sent false Nominated (inr apart) = absurd (apart refl)
weight-sent both Attempt counts = omega arith
weight-sent both Success counts = omega arith

pub weight-sent-no-more : (both : Bool) (n : NominationState) (e : Bool) → weight both (nomination_once_sent n) false ≤ weight both n e
weight-sent-no-more both Unnominated true = omega arith
weight-sent-no-more both Unnominated false = omega arith
weight-sent-no-more both Nominated e = omega arith
weight-sent-no-more both Attempt e = omega arith
weight-sent-no-more both Success e = omega arith

-- also if its nomination begins again before
pub weight-again-no-more : (both : Bool) (n : NominationState) (e : Bool) → weight both (nomination_once_sent (nomination_again n)) false ≤ weight both n e
weight-again-no-more both Unnominated true = omega arith
weight-again-no-more both Unnominated false = omega arith
weight-again-no-more both Nominated e = omega arith
weight-again-no-more both Attempt e = omega arith
weight-again-no-more both Success e = omega arith

pub weight-two : (both : Bool) (n : NominationState) (e : Bool) → weight both n e ≤ 1 + one_if both
weight-two both Unnominated true = omega arith
weight-two both Unnominated false = omega arith
weight-two both Nominated e = omega arith
weight-two both Attempt true = omega arith
weight-two both Attempt false = omega arith
weight-two both Success true = omega arith
weight-two both Success false = omega arith

-- if its due time is computed later, a pair is due by a time only if its last check was sent by then
unfixed-early : (by now most : ℕ) (t : StunTiming) (p : PairRecord) → by < now → now < MAX → nat_le (min (next_due_time now t p) (later now most)) by ≡ true → sent_by by p.checks ≡ true
unfixed-early by now most t p late early is = by-last (last_check p.checks) _ (le-from (min (next_due_time now t p) (later now most)) by is) where
  by-last : (o : Option Check) (delay : ℕ) → min (option_map_or (λ (c : Check). later c.sent delay) o now) (later now most) ≤ by → option_map_or (λ c. nat_le c.sent by) o false ≡ true
  by-last None delay le = absurd (following le) where
    following : min now (later now most) ≤ by → ⊥
    following le = omega (arith, le, late, early)
  by-last (Some c) delay le = le-is c.sent by (ahead c.sent le) where
    ahead : (sent : ℕ) → min (later sent delay) (later now most) ≤ by → sent ≤ by
    ahead sent le = omega (arith, le, late, early)

or-left : (a b : Bool) → (a ≡ true → b ≡ true) → (a || b) ≡ true → b ≡ true
or-left true b h is = h refl
or-left false b h is = is

scheduled-weight : (both : Bool) (by now : ℕ) (t : StunTiming) (n : NominationState) (o : Option ℕ) (p : PairRecord) → by < now → now < MAX
    → weight both n (is_early by (Some (unwrap_or o (min (computed_due_time n now t p) (later now t.max_rto.0)))) p.checks) ≤ weight both n (is_early by o p.checks)
scheduled-weight both by now t n (Some d) p late early = omega arith
scheduled-weight both by now t Nominated None p late early = omega arith
scheduled-weight both by now t Unnominated None p late early = less-early both Unnominated _ _ (or-left _ _ (unfixed-early by now t.max_rto.0 t p late early))
scheduled-weight both by now t Attempt None p late early = less-early both Attempt _ _ (or-left _ _ (unfixed-early by now t.max_rto.0 t p late early))
scheduled-weight both by now t Success None p late early = less-early both Success _ _ (or-left _ _ (unfixed-early by now t.max_rto.0 t p late early))

pub lead-scheduled : (both : Bool) (by now : ℕ) (t : StunTiming) (p : PairRecord) → by < now → now < MAX → lead both by (scheduled now t p) ≤ lead both by p
lead-scheduled both by now t p late early = scheduled-weight both by now t p.nomination p.due p late early

pub lead-checked-is : (both : Bool) (by now : ℕ) (t : StunTiming) (c : Bool) (id : List ℕ) (p : PairRecord) → by < now → 0 < t.max_retransmits
    → lead both by (checked now t c id p) ≡ weight both (nomination_once_sent p.nomination) false
lead-checked-is both by now t c id p late some =
    ap (λ b. weight both (nomination_once_sent p.nomination) b) (sent-late by now t.max_retransmits p.checks (check_of now c id p) late some refl)

-- a response makes no pair early
or-right : (a b : Bool) → b ≡ true → (a || b) ≡ true
or-right true b is = refl
or-right false b is = is

pub lead-answered : (both : Bool) (by now place : ℕ) (c : Check) (p : PairRecord) → slice_get p.checks place ≡ Some c → lead both by (answered now place c p) ≤ lead both by p
lead-answered both by now place c p at =
    let sent : sent_by by (slice_set p.checks place (answered_at now c)) ≡ sent_by by p.checks = sent-answered by p.checks place c (answered_at now c) at refl in
    let a : weight both (nomination_once_answered c.nominated p.nomination) (sent_by by p.checks) ≤ weight both p.nomination (sent_by by p.checks) =
    weight-answered both c.nominated p.nomination (sent_by by p.checks) in
    let b : weight both p.nomination (sent_by by p.checks) ≤ lead both by p =
    less-early both p.nomination (sent_by by p.checks) (is_early by p.due p.checks) (or-right (option_map_or (λ at. nat_le at by) p.due false) (sent_by by p.checks)) in
    subst (λ e. weight both (nomination_once_answered c.nominated p.nomination) e ≤ lead both by p) (sym sent)
    (joined (weight both (nomination_once_answered c.nominated p.nomination) (sent_by by p.checks)) (weight both p.nomination (sent_by by p.checks)) (lead both by p) a b) where
      joined : (x y z : ℕ) → x ≤ y → y ≤ z → x ≤ z
      joined x y z h k = omega (arith, h, k)

-- ---- the pairs that count

-- Which pairs count, by their numbers, and whether they also count when they are nominated.
pub record Measure : Type 0 where
  pub skips : ℕ → Bool
  pub both : Bool

-- all except the pair with the number
abbrev pub all-but : ℕ → Measure
all-but n = record { skips = λ k. k == n; both = true }

-- A new pair counts when it is nominated. So many were formed before.
abbrev pub formed_by : Measure → ℕ → ℕ
formed_by m next = if m.both then next else 0

abbrev pub own : Measure → ℕ → PairRecord → ℕ
own m by p = if m.skips p.number then 0 else lead m.both by p

abbrev pub leads : Measure → ℕ → List PairRecord → ℕ
leads m by [] = 0
leads m by (p ∷ ps) = own m by p + leads m by ps

unless-le : (a b : Bool) (x y : ℕ) → a ≡ b → x ≤ y → (if a then 0 else x) ≤ (if b then 0 else y)
unless-le true true x y same le = omega arith
unless-le true false x y same le = absurd (cc)
unless-le false true x y same le = absurd (cc)
unless-le false false x y same le = le

pub own-le : (m : Measure) (by : ℕ) (p q : PairRecord) → q.number ≡ p.number → lead m.both by q ≤ lead m.both by p → own m by q ≤ own m by p
own-le m by p q same le = unless-le (m.skips q.number) (m.skips p.number) (lead m.both by q) (lead m.both by p) (ap m.skips same) le

sums : (a b c d : ℕ) → a ≤ b → c ≤ d → a + c ≤ b + d
sums a b c d h k = omega (arith, h, k)

sums-left : (a b c d : ℕ) → a + 1 ≤ b → c ≤ d → a + c + 1 ≤ b + d
sums-left a b c d h k = omega (arith, h, k)

sums-right : (a b c d : ℕ) → a ≤ b → c + 1 ≤ d → a + c + 1 ≤ b + d
sums-right a b c d h k = omega (arith, h, k)

pub leads-map : (m : Measure) (by : ℕ) (f : PairRecord → PairRecord) (xs : List PairRecord) → ((p : PairRecord) → own m by (f p) ≤ own m by p) → leads m by (map f xs) ≤ leads m by xs
leads-map m by f [] h = omega arith
leads-map m by f (x ∷ xs) h = sums (own m by (f x)) (own m by x) (leads m by (map f xs)) (leads m by xs) (h x) (leads-map m by f xs h)

pub leads-less : (m : Measure) (by : ℕ) (f : PairRecord → PairRecord) (xs : List PairRecord) (x : PairRecord) → ((p : PairRecord) → own m by (f p) ≤ own m by p)
    → Has xs x → own m by (f x) + 1 ≤ own m by x → leads m by (map f xs) + 1 ≤ leads m by xs
leads-less m by f [] x h has less = absurd has
leads-less m by f (y ∷ ys) x h (inl e) less =
    sums-left (own m by (f y)) (own m by y) (leads m by (map f ys)) (leads m by ys) (subst (λ (z : PairRecord). own m by (f z) + 1 ≤ own m by z) (sym e) less) (leads-map m by f ys h)
leads-less m by f (y ∷ ys) x h (inr has) less =
    sums-right (own m by (f y)) (own m by y) (leads m by (map f ys)) (leads m by ys) (h y) (leads-less m by f ys x h has less)

pub leads-filter : (m : Measure) (by : ℕ) (keep : PairRecord → Bool) (xs : List PairRecord) → leads m by (filter keep xs) ≤ leads m by xs
leads-filter m by keep [] = omega arith
leads-filter m by keep (x ∷ xs) = kept (keep x) (leads-filter m by keep xs) where
  kept : (b : Bool) → leads m by (filter keep xs) ≤ leads m by xs → leads m by (if b then x ∷ filter keep xs else filter keep xs) ≤ own m by x + leads m by xs
  kept true le = sums (own m by x) (own m by x) (leads m by (filter keep xs)) (leads m by xs) (omega arith) le
  kept false le = following (own m by x) (leads m by (filter keep xs)) (leads m by xs) le where
    following : (a b c : ℕ) → b ≤ c → b ≤ a + c
    following a b c h = omega (arith, h)

pub leads-push : (m : Measure) (by one : ℕ) (x : PairRecord) (xs : List PairRecord) → own m by x ≤ one → leads m by (xs ++ x ∷ []) ≤ leads m by xs + one
leads-push m by one x [] le = one-more (own m by x) le where
  one-more : (a : ℕ) → a ≤ one → a + 0 ≤ 0 + one
  one-more a h = omega (arith, h)
leads-push m by one x (y ∷ ys) le = further (own m by y) (leads m by (ys ++ x ∷ [])) (leads m by ys) (leads-push m by one x ys le) where
  further : (a b c : ℕ) → b ≤ c + one → a + b ≤ a + c + one
  further a b c h = omega (arith, h)

pub leads-set : (m : Measure) (by : ℕ) (xs : List PairRecord) (i : ℕ) (p after : PairRecord) → slice_get xs i ≡ Some p → own m by after ≤ own m by p → leads m by (slice_set xs i after) ≤ leads m by xs
leads-set m by [] i p after at le = omega arith
leads-set m by (x ∷ xs) zero p after at le =
    sums (own m by after) (own m by x) (leads m by xs) (leads m by xs) (subst (λ (y : PairRecord). own m by after ≤ own m by y) (sym (some_is x p at)) le) (omega arith)
leads-set m by (x ∷ xs) (suc i) p after at le =
    sums (own m by x) (own m by x) (leads m by (slice_set xs i after)) (leads m by xs) (omega arith) (leads-set m by xs i p after at le)

own-two : (n by : ℕ) (p : PairRecord) → own (all-but n) by p ≤ 2
own-two n by p = unless (is_numbered n p) (weight-two true p.nomination (is_early by p.due p.checks)) where
  unless : (b : Bool) → lead true by p ≤ 2 → (if b then 0 else lead true by p) ≤ 2
  unless true le = omega arith
  unless false le = le

leads-all : (n by : ℕ) (xs : List PairRecord) → leads (all-but n) by xs ≤ 2 * length xs
leads-all n by [] = omega arith
leads-all n by (x ∷ xs) = twice (own (all-but n) by x) (leads (all-but n) by xs) (length xs) (own-two n by x) (leads-all n by xs) where
  twice : (a b c : ℕ) → a ≤ 2 → b ≤ 2 * c → a + b ≤ 2 * suc c
  twice a b c h k = omega (arith, h, k)

-- the pair itself does not count
pub leads-others : (by : ℕ) (xs : List PairRecord) (p : PairRecord) → Has xs p → leads (all-but p.number) by xs + 2 ≤ 2 * length xs
leads-others by [] p has = absurd has
leads-others by (x ∷ xs) p (inl e) = none (is_numbered p.number x) (ap (λ (y : PairRecord). y.number == p.number) e ∙ eq-eqb p.number p.number refl) (leads-all p.number by xs) where
  none : (b : Bool) → b ≡ true → leads (all-but p.number) by xs ≤ 2 * length xs → (if b then 0 else lead true by x) + leads (all-but p.number) by xs + 2 ≤ 2 * suc (length xs)
  none true is le = count (leads (all-but p.number) by xs) (length xs) le where
    count : (a b : ℕ) → a ≤ 2 * b → 0 + a + 2 ≤ 2 * suc b
    count a b h = omega (arith, h)
  none false is le = absurd (cc)
leads-others by (x ∷ xs) p (inr has) = count (own (all-but p.number) by x) (leads (all-but p.number) by xs) (length xs) (own-two p.number by x) (leads-others by xs p has) where
  count : (a b c : ℕ) → a ≤ 2 → b + 2 ≤ 2 * c → a + b + 2 ≤ 2 * suc c
  count a b c h k = omega (arith, h, k)

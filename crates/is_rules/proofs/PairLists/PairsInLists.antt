-- The indices of pairs are in the lists of candidates: what follows, and what keeps it.
use Rattle.std.proofs.lemmas.List.Folds.{list_all-append}
use Rattle.is_rules.proofs.Common.{[], ◌&&◌, ◌++◌, ◌<◌, ◌||◌, ◌∙◌, ◌∷◌, ◌≡◌, ◌≤◌, ap, are_placed, arith, Bool, CandidateRecord, change_at}
use Rattle.is_rules.proofs.Common.{change_pair, Check, false, filter, Has, has_number, if◌then◌else◌, inl, inr, is_awaiting, is_nominated}
use Rattle.is_rules.proofs.Common.{is_numbered, is_placed, is_triggered, IsAwaiting, IsGreatest, keeps_check, KeepsKeys, length, List}
use Rattle.is_rules.proofs.Common.{list_all, list_any, map, moved_up, nat_lt, nat_tests, nominated, nominated_by_peer, nominated_by_self}
use Rattle.is_rules.proofs.Common.{None, not, numbered, numbered_by_peer, Option, PairRecord, refl, renominated, RequestRecord, served}
use Rattle.is_rules.proofs.Common.{Some, sym, taking_over, triggered, true, validated, validated_by_peer, with_request, without, ℕ}
use Rattle.is_rules.proofs.PairLists.PairsByNumber.{both}
use Rattle.is_rules.proofs.PairLists.RemovedInTurn.{Removes, RemovesInTurn}

-- ---- lists whose elements all pass a test

module _ {X : Type 0} (q : X → Bool) where
  pub all-has : (xs : List X) (x : X) → list_all q xs ≡ true → Has xs x → q x ≡ true
  all-has [] x all none = absurd none
  all-has (y ∷ ys) x all (inl same) = ap q (sym same) ∙ (both (q y) (list_all q ys) all).0
  all-has (y ∷ ys) x all (inr has) = all-has ys x (both (q y) (list_all q ys) all).1 has

  pub all-from : (xs : List X) → ((x : X) → Has xs x → q x ≡ true) → list_all q xs ≡ true
  all-from [] each = refl
  all-from (y ∷ ys) each = rw (each y (inl refl), all-from ys (λ x has. each x (inr has))) refl

  pub all-filter : (test : X → Bool) (xs : List X) → list_all q xs ≡ true → list_all q (filter test xs) ≡ true
  all-filter test [] all = refl
  all-filter test (y ∷ ys) all =
      let b = both (q y) (list_all q ys) all in
      elim (test y) as (λ t. list_all q (if t then y ∷ filter test ys else filter test ys) ≡ true) [
        | true ↦ rw (b.0, all-filter test ys b.1) refl
        | false ↦ all-filter test ys b.1
      ]

  pub all-mapped : (f : X → X) → ((x : X) → q (f x) ≡ q x) → (xs : List X) → list_all q (map f xs) ≡ list_all q xs
  all-mapped f same [] = refl
  all-mapped f same (y ∷ ys) = rw (same y, all-mapped f same ys) refl

  pub all-push : (xs : List X) (x : X) → list_all q xs ≡ true → q x ≡ true → list_all q (xs ++ x ∷ []) ≡ true
  all-push xs x all its = rw (list_all-append q xs (x ∷ []), all, its) refl

  -- tests and changes that are the same where all pass

  pub any-there : (test : X → Bool) (xs : List X) → list_all q xs ≡ true → list_any (λ x. q x && test x) xs ≡ list_any test xs
  any-there test [] all = refl
  any-there test (y ∷ ys) all = let b = both (q y) (list_all q ys) all in rw (b.0, any-there test ys b.1) refl

  pub passing-there : (test : X → Bool) (xs : List X) → list_all q xs ≡ true → filter (λ x. q x && test x) xs ≡ filter test xs
  passing-there test [] all = refl
  passing-there test (y ∷ ys) all = let b = both (q y) (list_all q ys) all in rw (b.0, passing-there test ys b.1) refl

  pub mapped-there : {Y : Type 0} (f g : X → Y) → ((x : X) → q x ≡ true → f x ≡ g x) → (xs : List X) → list_all q xs ≡ true → map f xs ≡ map g xs
  mapped-there f g same [] all = refl
  mapped-there f g same (y ∷ ys) all = let b = both (q y) (list_all q ys) all in rw (same y b.0, mapped-there f g same ys b.1) refl

pub greatest-there : (q test : PairRecord → Bool) (ps : List PairRecord) (top : Option PairRecord) → list_all q ps ≡ true
    → IsGreatest (λ p. q p && test p) ps top → IsGreatest test ps top
greatest-there q test ps None all none = sym (passing-there q test ps all) ∙ none
greatest-there q test ps (Some top) all (has, passes, most) = (
  has,
  (both (q top) (test top) passes).1,
  λ p in_it its. most p in_it (rw (all-has q ps p all in_it) its),
)

pub awaiting-there : (id : List ℕ) (q test : PairRecord → Bool) (ps : List PairRecord) (found : Option PairRecord) → list_all q ps ≡ true
    → IsAwaiting id (λ p. q p && test p) ps found → IsAwaiting id test ps found
awaiting-there id q test ps None all none = sym (passing-there q (is_awaiting id test) ps all) ∙ (swapped ps ∙ none) where
  swapped : (xs : List PairRecord) → filter (λ p. q p && is_awaiting id test p) xs ≡ filter (is_awaiting id (λ p. q p && test p)) xs
  swapped [] = refl
  swapped (y ∷ ys) = rw (commuted (q y) (keeps_check id y) (test y), swapped ys) refl where
    commuted : (a b c : Bool) → a && (b && c) ≡ b && (a && c)
    commuted true b c = refl
    commuted false true c = refl
    commuted false false c = refl
awaiting-there id q test ps (Some p) all (has, passes) = (has, dropped (keeps_check id p) (q p) (test p) passes) where
  dropped : (a b c : Bool) → a && (b && c) ≡ true → a && c ≡ true
  dropped true true c h = h
  dropped true false c h = absurd (cc)
  dropped false b c h = absurd (cc)

-- ---- one pair

pub is-in : (local remote : List CandidateRecord) (p : PairRecord) → is_placed local remote p ≡ true → (p.local < length local) × (p.remote < length remote)
is-in local remote p h =
    let b = both (nat_lt p.local (length local)) (nat_lt p.remote (length remote)) h in
    (grind (arith, nat_tests, b.0), grind (arith, nat_tests, b.1))

pub in-is : (local remote : List CandidateRecord) (p : PairRecord) → p.local < length local → p.remote < length remote → is_placed local remote p ≡ true
in-is local remote p l r =
    let left : nat_lt p.local (length local) ≡ true = grind (arith, nat_tests) in
    let right : nat_lt p.remote (length remote) ≡ true = grind (arith, nat_tests) in
    rw (left, right) refl

-- ---- all pairs

pub in-lists : (local remote : List CandidateRecord) (ps : List PairRecord) (p : PairRecord) → are_placed local remote ps ≡ true → Has ps p
    → (p.local < length local) × (p.remote < length remote)
in-lists local remote ps p all has = is-in local remote p (all-has (is_placed local remote) ps p all has)

-- the lists become longer, or change without becoming shorter
pub longer : (local remote more others : List CandidateRecord) (ps : List PairRecord) → length local ≤ length more → length remote ≤ length others
    → are_placed local remote ps ≡ true → are_placed more others ps ≡ true
longer local remote more others ps l r all = all-from (is_placed more others) ps (λ p has.
    let at = in-lists local remote ps p all has in in-is more others p (omega (arith, l, at.0)) (omega (arith, r, at.1)))

pub placed-without : (local remote : List CandidateRecord) (gone : PairRecord → Bool) (ps : List PairRecord) → are_placed local remote ps ≡ true
    → are_placed local remote (without gone ps) ≡ true
placed-without local remote gone ps all = all-filter (is_placed local remote) (λ p. not (gone p)) ps all

-- a change that keeps the indices of each pair
pub record KeepsPlaces (f : PairRecord → PairRecord) : Type 0 where
  pub local : (p : PairRecord) → (f p).local ≡ p.local
  pub remote : (p : PairRecord) → (f p).remote ≡ p.remote

pub placed-mapped : (local remote : List CandidateRecord) (f : PairRecord → PairRecord) (ps : List PairRecord) → KeepsPlaces f → are_placed local remote ps ≡ true
    → are_placed local remote (map f ps) ≡ true
placed-mapped local remote f ps keeps all = all-mapped (is_placed local remote) f (λ p. rw (keeps.local p, keeps.remote p) refl) ps ∙ all

pub placed-changed : (local remote : List CandidateRecord) (n : ℕ) (f : PairRecord → PairRecord) (ps : List PairRecord) → KeepsPlaces f
    → are_placed local remote ps ≡ true → are_placed local remote (change_pair n f ps) ≡ true
placed-changed local remote n f ps keeps all = placed-mapped local remote (change_at n f) ps (record {
  local = λ p. elim (is_numbered n p) as (λ b. (if b then f p else p).local ≡ p.local) [ true ↦ keeps.local p | false ↦ refl ];
  remote = λ p. elim (is_numbered n p) as (λ b. (if b then f p else p).remote ≡ p.remote) [ true ↦ keeps.remote p | false ↦ refl ];
}) all

-- a pair that is nominated again has its number
pub changed-has : (n : ℕ) (ps : List PairRecord) → has_number n (change_pair n renominated ps) ≡ has_number n ps
changed-has n [] = refl
changed-has n (p ∷ ps) =
    elim (is_numbered n p) as (λ b. is_numbered n (if b then renominated p else p) || has_number n (change_pair n renominated ps) ≡ is_numbered n p || has_number n ps) [
      | true ↦ ap (λ b. is_numbered n p || b) (changed-has n ps)
      | false ↦ ap (λ b. is_numbered n p || b) (changed-has n ps)
    ]

pub placed-push : (local remote : List CandidateRecord) (ps : List PairRecord) (p : PairRecord) → are_placed local remote ps ≡ true
    → p.local < length local → p.remote < length remote → are_placed local remote (ps ++ p ∷ []) ≡ true
placed-push local remote ps p all l r = all-push (is_placed local remote) ps p all (in-is local remote p l r)

pub placed-drops : (local remote : List CandidateRecord) (limit : ℕ) (gone old new : List PairRecord) → RemovesInTurn limit gone old new
    → are_placed local remote old ≡ true → are_placed local remote new ≡ true
placed-drops local remote limit [] old new (within, same) all = rw (same) all
placed-drops local remote limit (p ∷ gone) old new (over, has, rest) all =
    placed-drops local remote limit gone (without (is_numbered p.number) old) new rest (placed-without local remote (is_numbered p.number) old all)

pub placed-evicted : (local remote : List CandidateRecord) (limit : ℕ) (old new : List PairRecord) → Removes limit old new
    → are_placed local remote old ≡ true → are_placed local remote new ≡ true
placed-evicted local remote limit old new (gone, drops) all = placed-drops local remote limit gone old new drops all

-- the pair that replaces another
pub taken-places : (lite : Bool) (other p : PairRecord) → ((taking_over lite other p).local ≡ p.local) × ((taking_over lite other p).remote ≡ p.remote)
taken-places true other p = (refl, refl)
taken-places false other p = (refl, refl)

-- ---- what a request and a nomination leave of a pair

if-kept : {A : Type 0} (f : PairRecord → A) (b : Bool) (x y : PairRecord) → f x ≡ f y → f (if b then x else y) ≡ f y
if-kept f true x y same = same
if-kept f false x y same = refl

nominated-places : (lite : Bool) (p : PairRecord) → ((nominated lite p).local ≡ p.local) × ((nominated lite p).remote ≡ p.remote)
nominated-places true p = (refl, refl)
nominated-places false p = (refl, refl)

triggered-places : (modern : Bool) (at : ℕ) → KeepsPlaces (triggered modern at)
triggered-places modern at = record {
  local = λ p. if-kept (λ (x : PairRecord). x.local) (modern && is_triggered p) (moved_up at p) p refl;
  remote = λ p. if-kept (λ (x : PairRecord). x.remote) (modern && is_triggered p) (moved_up at p) p refl;
}

nominated-by-peer-places : (controlling lite : Bool) (q : RequestRecord) → KeepsPlaces (λ p. nominated_by_peer controlling lite q (validated_by_peer controlling lite (with_request q.time p)))
nominated-by-peer-places controlling lite q = record {
  local = λ p. if-kept (λ (x : PairRecord). x.local) _ (nominated lite (validated_by_peer controlling lite (with_request q.time p))) _ (nominated-places lite _).0
      ∙ if-kept (λ (x : PairRecord). x.local) (lite && not controlling) (validated (with_request q.time p)) (with_request q.time p) refl;
  remote = λ p. if-kept (λ (x : PairRecord). x.remote) _ (nominated lite (validated_by_peer controlling lite (with_request q.time p))) _ (nominated-places lite _).1
      ∙ if-kept (λ (x : PairRecord). x.remote) (lite && not controlling) (validated (with_request q.time p)) (with_request q.time p) refl;
}

numbered-places : (controlling : Bool) (o : Option ℕ) → KeepsPlaces (numbered_by_peer controlling o)
numbered-places controlling None = record { local = λ p. refl; remote = λ p. refl }
numbered-places controlling (Some n) = record {
  local = λ p. if-kept (λ (x : PairRecord). x.local) controlling p (numbered n p) refl;
  remote = λ p. if-kept (λ (x : PairRecord). x.remote) controlling p (numbered n p) refl;
}

served-places : (controlling lite : Bool) (q : RequestRecord) → KeepsPlaces (served controlling lite q)
served-places controlling lite q =
    let first = nominated-by-peer-places controlling lite q in
    let own = numbered-places controlling q.nomination in record {
      local = λ p. own.local _ ∙ first.local p;
      remote = λ p. own.remote _ ∙ first.remote p;
    }

-- what a request, which may trigger a check, leaves of a pair
pub request-places : (controlling lite : Bool) (q : RequestRecord) (modern : Bool) (at : ℕ)
    → KeepsPlaces (λ p. served controlling lite q (triggered modern at p))
request-places controlling lite q modern at =
    let first = triggered-places modern at in
    let own = served-places controlling lite q in record {
      local = λ p. own.local (triggered modern at p) ∙ first.local p;
      remote = λ p. own.remote (triggered modern at p) ∙ first.remote p;
    }

-- serving a request keeps what a checklist finds its pairs by

abbrev keys-of : PairRecord → ℕ × ℕ × List Check
keys-of p = (p.number, p.priority, p.checks)

nominated-keys : (lite : Bool) (p : PairRecord) → keys-of (nominated lite p) ≡ keys-of p
nominated-keys true p = refl
nominated-keys false p = refl

triggered-keys : (modern : Bool) (at : ℕ) (p : PairRecord) → keys-of (triggered modern at p) ≡ keys-of p
triggered-keys modern at p = if-kept keys-of (modern && is_triggered p) (moved_up at p) p refl

numbered-keys : (controlling : Bool) (o : Option ℕ) (p : PairRecord) → keys-of (numbered_by_peer controlling o p) ≡ keys-of p
numbered-keys controlling None p = refl
numbered-keys true (Some n) p = refl
numbered-keys false (Some n) p = refl

served-keys : (controlling lite : Bool) (q : RequestRecord) (p : PairRecord) → keys-of (served controlling lite q p) ≡ keys-of p
served-keys controlling lite q p =
    let valid = validated_by_peer controlling lite (with_request q.time p) in
    numbered-keys controlling q.nomination (nominated_by_peer controlling lite q valid)
    ∙ (if-kept keys-of (not controlling && q.use_candidate && not (is_nominated valid)) (nominated lite valid) valid (nominated-keys lite valid)
    ∙ if-kept keys-of (lite && not controlling) (validated (with_request q.time p)) (with_request q.time p) refl)

pub request-keys : (controlling lite : Bool) (q : RequestRecord) (modern : Bool) (at : ℕ) → KeepsKeys (λ p. served controlling lite q (triggered modern at p))
request-keys controlling lite q modern at = λ p.
    let same = served-keys controlling lite q (triggered modern at p) ∙ triggered-keys modern at p in
    (ap (λ (k : ℕ × ℕ × List Check). k.0) same, ap (λ (k : ℕ × ℕ × List Check). k.1) same, ap (λ (k : ℕ × ℕ × List Check). k.2) same)

pub self-places : (controlling lite : Bool) → KeepsPlaces (nominated_by_self controlling lite)
self-places controlling lite = record {
  local = λ p. if-kept (λ (x : PairRecord). x.local) _ (nominated lite p) p (nominated-places lite p).0;
  remote = λ p. if-kept (λ (x : PairRecord). x.remote) _ (nominated lite p) p (nominated-places lite p).1;
}

-- of a list that begins with a pair
pub placed-first : (local remote : List CandidateRecord) (p : PairRecord) (all rest : List PairRecord) → all ≡ p ∷ rest → are_placed local remote all ≡ true
    → (is_placed local remote p ≡ true) × (are_placed local remote rest ≡ true)
placed-first local remote p all rest is placed = both (is_placed local remote p) (are_placed local remote rest) (sym (ap (are_placed local remote) is) ∙ placed)

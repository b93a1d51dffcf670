-- Before nomination a `handle_timeout` call may make pairs due next: nothing else of them changes, and none of those that were due before then.
use Rattle.is_theorems.proofs.Common.{[], ◌&&◌, ◌+◌, ◌∙◌, ◌∷◌, ◌≡◌, AgentRecord, ap, Bool, Consent, consent_of}
use Rattle.is_theorems.proofs.Common.{false, filter, gives_way, Has, has_consent, hastened, if◌then◌else◌, inl, inr, is_due_next}
use Rattle.is_theorems.proofs.Common.{is_lite_alive, is_pair_expired, is_possible, List, map, moved_up, None, not, Option, PairRecord}
use Rattle.is_theorems.proofs.Common.{path_left, refl, Some, StunTiming, subst, sym, true, ℕ}

-- ---- lists

-- what is left and changed was there before
pub had-before : {X Y : Type 0} (keep : X → Bool) (f : X → Y) (xs : List X) (y : Y) → Has (map f (filter keep xs)) y → (x : X) × Has xs x × (f x ≡ y)
had-before keep f [] y h = absurd h
had-before {X} keep f (x ∷ xs) y h = by (keep x) h (had-before keep f xs y) where
  by : (b : Bool) → Has (map f (if b then x ∷ filter keep xs else filter keep xs)) y → (Has (map f (filter keep xs)) y → (z : X) × Has xs z × (f z ≡ y))
      → (z : X) × Has (x ∷ xs) z × (f z ≡ y)
  by true (inl e) among = (x, inl refl, e)
  by true (inr k) among = let r = among k in (r.0, inr r.1, r.2)
  by false k among = let r = among k in (r.0, inr r.1, r.2)

-- what is kept is there, changed
pub has-after : {X Y : Type 0} (keep : X → Bool) (f : X → Y) (xs : List X) (x : X) → Has xs x → keep x ≡ true → Has (map f (filter keep xs)) (f x)
has-after keep f [] x none kept = absurd none
has-after keep f (y ∷ ys) x (inl e) kept =
    subst (λ b. Has (map f (if b then y ∷ filter keep ys else filter keep ys)) (f x)) (sym (ap keep e ∙ kept)) (inl (ap f e))
has-after keep f (y ∷ ys) x (inr has) kept = by (keep y) (has-after keep f ys x has kept) where
  by : (b : Bool) → Has (map f (filter keep ys)) (f x) → Has (map f (if b then y ∷ filter keep ys else filter keep ys)) (f x)
  by true there = inr there
  by false there = there

-- ---- one pair

-- the due time of a pair that is hastened, at most
abbrev pub due_next : ℕ → ℕ
due_next now = now + 1

-- what holds of the pair, and of it with its due time moved up to any time
pub by-hastened : (Holds : PairRecord → Type 0) (test : PairRecord → Bool) (now : ℕ) (p : PairRecord) → ((at : ℕ) → Holds (moved_up at p)) → Holds p → Holds (hastened test now p)
by-hastened Holds test now p sooner same = by (test p) where
  by : (b : Bool) → Holds (if b then moved_up (due_next now) p else p)
  by true = sooner (due_next now)
  by false = same

-- what holds of it before, as what does not depend on the due time
pub held-before : (Holds : PairRecord → Type 0) (test : PairRecord → Bool) (now : ℕ) (p : PairRecord) → ((at : ℕ) → Holds (moved_up at p) → Holds p) → Holds (hastened test now p) → Holds p
held-before Holds test now p sooner = by (test p) where
  by : (b : Bool) → Holds (if b then moved_up (due_next now) p else p) → Holds p
  by true h = sooner (due_next now) h
  by false h = h

-- the due time is all that may change
pub only-due : (test : PairRecord → Bool) (now : ℕ) (p : PairRecord) → hastened test now p ≡ record p { due = (hastened test now p).due }
only-due test now p = by-hastened (λ q. q ≡ record p { due = q.due }) test now p (λ at. refl) refl

-- nor does it matter for whether the pair is to be removed
pub hastened-expires : (test : PairRecord → Bool) (now : ℕ) (p : PairRecord) (lite : Bool) (t : StunTiming)
    → is_pair_expired lite now t (hastened test now p) ≡ is_pair_expired lite now t p
hastened-expires test now p lite t = by-hastened (λ q. is_pair_expired lite now t q ≡ is_pair_expired lite now t p) test now p sooner refl where
  expires : (consents : Bool) → Bool
  expires consents = not (if lite then is_lite_alive now t p else consents && is_possible now t p)

  consents : (o : Option Consent) (at : ℕ) → has_consent o now (moved_up at p) ≡ has_consent o now p
  consents None at = refl
  consents (Some c) at = refl

  sooner : (at : ℕ) → is_pair_expired lite now t (moved_up at p) ≡ is_pair_expired lite now t p
  sooner at = ap (λ b. expires b) (consents (consent_of t) at)

-- ---- the pairs

-- no pair passes the test
pub none-hastened : (test : PairRecord → Bool) (now : ℕ) (ps : List PairRecord) → ((p : PairRecord) → Has ps p → test p ≡ false) → map (hastened test now) ps ≡ ps
none-hastened test now [] none = refl
none-hastened test now (p ∷ ps) none =
    ap (λ b. (if b then moved_up (due_next now) p else p) ∷ map (hastened test now) ps) (none p (inl refl))
    ∙ ap (λ qs. p ∷ qs) (none-hastened test now ps (λ q has. none q (inr has)))

module _ {H P : Type 0} (now : ℕ) (a : AgentRecord H P) where
  -- the pairs that are hastened
  abbrev pub Hastens : PairRecord → Bool
  Hastens = is_due_next now a

  -- each pair that is left was there
  pub left-was : (p : PairRecord) → Has (path_left now a).pairs p → (q : PairRecord) × Has a.pairs q × (hastened Hastens now q ≡ p)
  left-was p has = had-before (λ q. not (gives_way now a q)) (hastened Hastens now) a.pairs p has

  -- and what holds of it, whatever its due time, holds of the one before
  pub left-held : (Holds : PairRecord → Type 0) → ((at : ℕ) (q : PairRecord) → Holds (moved_up at q) → Holds q)
      → (p : PairRecord) × Has (path_left now a).pairs p × Holds p → (q : PairRecord) × Has a.pairs q × Holds q
  left-held Holds sooner (p, has, holds) =
      let o = left-was p has in
      (o.0, o.1, held-before Holds Hastens now o.0 (λ at. sooner at o.0) (subst Holds (sym o.2) holds))

  -- the others are left
  pub left-has : (p : PairRecord) → Has a.pairs p → gives_way now a p ≡ false → Has (path_left now a).pairs (hastened Hastens now p)
  left-has p has stays = has-after (λ q. not (gives_way now a q)) (hastened Hastens now) a.pairs p has (ap not stays)

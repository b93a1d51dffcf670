-- The effects of nomination and of requests on a pair. Which changes of a list of pairs leave no more checks of other
-- pairs before one, except for one by each added pair.
use Rattle.is_pair.specs.declared.pair.states.NominationState.TheVariants.{None as Unnominated}
use Rattle.is_theorems.proofs.Common.{[], ◌&&◌, ◌++◌, ◌+◌, ◌<◌, ◌||◌, ◌∙◌, ◌∷◌, ◌≡◌, ◌≤◌, ◌⊎◌, ap, arith, Attempt, Bool, change_at, false}
use Rattle.is_theorems.proofs.Common.{Has, if◌then◌else◌, inl, inr, is_nominated, is_nominated_state, is_numbered, is_triggered, List, map}
use Rattle.is_theorems.proofs.Common.{min, moved_up, nat_le, new_pair, Nominated, nominated, nominated_by_peer, NominationState, None, not}
use Rattle.is_theorems.proofs.Common.{one_if, Option, option_map, option_map_or, PairRecord, refl, RequestRecord, served, slice_get}
use Rattle.is_theorems.proofs.Common.{slice_set, Some, subst, suc, Success, sym, triggered, true, unwrap_or, validated, validated_by_peer}
use Rattle.is_theorems.proofs.Common.{with_request, zero, ℕ}
use Rattle.is_theorems.proofs.DuePairs.AfterNominationAndRemoval.{Kept, kept_of}
use Rattle.is_theorems.proofs.EarlierChecks.ChecksOfOtherPairs.{Becomes, le-from, le-is, le-fails, le-not, lead, leads, own, own-le}
use Rattle.is_theorems.proofs.EarlierChecks.ChecksOfOtherPairs.{formed_by, Measure, sent_by, weight-becomes, is_early, weight, leads-map}
use Rattle.is_theorems.proofs.EarlierChecks.ChecksOfOtherPairs.{leads-push, leads-set}
use Rattle.is_theorems.proofs.CallEffects.ServedRequests.{Has-mapped}
use Rattle.is_theorems.proofs.RuleEffects.SelectedPaths.{some_is}
use Rattle.is_theorems.proofs.BasicLemmas.ServedPairs.{numbered-by}

-- ---- one pair

-- q is the pair p, due as it was; it may become nominated
pub record Mild (p q : PairRecord) : Type 0 where
  pub number : q.number ≡ p.number
  pub due : q.due ≡ p.due
  pub kept : kept_of q ≡ kept_of p
  pub nomination : (q.nomination ≡ p.nomination) ⊎ Becomes p.nomination q.nomination

pub mild-same : (p : PairRecord) → Mild p p
mild-same p = record { number = refl; due = refl; kept = refl; nomination = inl refl }

-- it is not nominated
pub nominates-mildly : (l : Bool) (p : PairRecord) → is_nominated p ≡ false → Mild p (nominated l p)
nominates-mildly l p is = by l (none p.nomination refl) where
  none : (n : NominationState) → p.nomination ≡ n → p.nomination ≡ Unnominated
  none Unnominated same = same
  none Nominated same = let wrong : true ≡ false = ap is_nominated_state (sym same) ∙ is in absurd (cc)
  none Attempt same = let wrong : true ≡ false = ap is_nominated_state (sym same) ∙ is in absurd (cc)
  none Success same = let wrong : true ≡ false = ap is_nominated_state (sym same) ∙ is in absurd (cc)

  by : (l : Bool) → p.nomination ≡ Unnominated → Mild p (nominated l p)
  by true was = record { number = refl; due = refl; kept = refl; nomination = inr (was, inr refl) }
  by false was = record { number = refl; due = refl; kept = refl; nomination = inr (was, inl refl) }

pub self-mild : (b l n : Bool) (p : PairRecord) → is_nominated p ≡ n → Mild p (if not n && b then nominated l p else p)
self-mild true l false p is = nominates-mildly l p is
self-mild false l false p is = mild-same p
self-mild b l true p is = mild-same p

peer-mild : (a b l n : Bool) (p : PairRecord) → is_nominated p ≡ n → Mild p (if a && b && not n then nominated l p else p)
peer-mild true true l false p is = nominates-mildly l p is
peer-mild true true l true p is = mild-same p
peer-mild true false l n p is = mild-same p
peer-mild false b l n p is = mild-same p

mild-on : (p q r : PairRecord) → q.number ≡ p.number → q.due ≡ p.due → kept_of q ≡ kept_of p → q.nomination ≡ p.nomination → Mild q r → Mild p r
mild-on p q r number due kept nomination m = record {
  number = m.number ∙ number;
  due = m.due ∙ due;
  kept = m.kept ∙ kept;
  nomination = elim m.nomination [
    | inl same ↦ inl (same ∙ nomination)
    | inr (was, now) ↦ inr (sym nomination ∙ was, now)
  ];
}

pub served-mild : (c l : Bool) (q : RequestRecord) (p : PairRecord) → Mild p (served c l q p)
served-mild c l q p =
    let m = by (l && not c) in
    numbered-by (λ x. Mild p x) c q.nomination (nominated_by_peer c l q (validated_by_peer c l (with_request q.time p))) m
    (λ n. record { number = m.number; due = m.due; kept = m.kept; nomination = m.nomination }) where
      asks : (x : PairRecord) → Mild x (if not c && q.use_candidate && not (is_nominated x) then nominated l x else x)
      asks x = peer-mild (not c) q.use_candidate l (is_nominated x) x refl

      by : (b : Bool) → Mild p (if not c && q.use_candidate && not (is_nominated (if b then validated (with_request q.time p) else with_request q.time p))
          then nominated l (if b then validated (with_request q.time p) else with_request q.time p)
          else (if b then validated (with_request q.time p) else with_request q.time p))
      by true = mild-on p (validated (with_request q.time p)) _ refl refl refl refl (asks (validated (with_request q.time p)))
      by false = mild-on p (with_request q.time p) _ refl refl refl refl (asks (with_request q.time p))

pub at-mild : (n : ℕ) (f : PairRecord → PairRecord) (p : PairRecord) → Mild p (f p) → Mild p (change_at n f p)
at-mild n f p m = by (is_numbered n p) where
  by : (b : Bool) → Mild p (if b then f p else p)
  by true = m
  by false = mild-same p

-- q is the pair p, which may have been moved up to the time `at` or a later one. It is due by an earlier time exactly if it was, and due
-- as it was if that is by then.
pub record MovedUp (by at : ℕ) (p q : PairRecord) : Type 0 where
  pub number : q.number ≡ p.number
  pub kept : kept_of q ≡ kept_of p
  pub nomination : (q.nomination ≡ p.nomination) ⊎ Becomes p.nomination q.nomination
  pub early : by < at → option_map_or (λ d. nat_le d by) q.due false ≡ option_map_or (λ d. nat_le d by) p.due false
  pub fixed : (d : ℕ) → d ≤ at → p.due ≡ Some d → q.due ≡ Some d

pub moved-mild : (by at : ℕ) (p q : PairRecord) → Mild p q → MovedUp by at p q
moved-mild by at p q m = record {
  number = m.number;
  kept = m.kept;
  nomination = m.nomination;
  early = λ late. ap (λ o. option_map_or (λ d. nat_le d by) o false) m.due;
  fixed = λ d le is. m.due ∙ is;
}

min-le : (by to d : ℕ) → by < to → nat_le (min to d) by ≡ nat_le d by
min-le by to d late = from (nat_le d by) refl where
  from : (b : Bool) → nat_le d by ≡ b → nat_le (min to d) by ≡ b
  from true is = let le = le-from d by is in le-is (min to d) by (omega (arith, le))
  from false is = let over = le-fails d by is in le-not (min to d) by (omega (arith, over, late))

moved-early : (by to : ℕ) (o : Option ℕ) → by < to → option_map_or (λ d. nat_le d by) (option_map (min to) o) false ≡ option_map_or (λ d. nat_le d by) o false
moved-early by to None late = refl
moved-early by to (Some d) late = min-le by to d late

moved-fixed : (to d : ℕ) (o : Option ℕ) → d ≤ to → o ≡ Some d → option_map (min to) o ≡ Some d
moved-fixed to d None le is = absurd (cc)
moved-fixed to d (Some e) le is = let same : e ≡ d = ap (λ o. unwrap_or o 0) is in ap Some (omega (arith, same, le))

-- to a time that is not before `at`
pub moved-to : (by at to : ℕ) (p q : PairRecord) → at ≤ to → Mild (moved_up to p) q → MovedUp by at p q
moved-to by at to p q late m = record {
  number = m.number;
  kept = m.kept;
  nomination = m.nomination;
  early = λ before. ap (λ o. option_map_or (λ d. nat_le d by) o false) m.due ∙ moved-early by to p.due (omega (arith, before, late));
  fixed = λ d le is. m.due ∙ moved-fixed to d p.due (omega (arith, le, late)) is;
}

-- a request may move the pair up before it is served
pub triggered-mild : (by at to : ℕ) (modern : Bool) (p q : PairRecord) → at ≤ to → Mild (triggered modern to p) q → MovedUp by at p q
triggered-mild by at to modern p q late m = moves (modern && is_triggered p) m where
  moves : (b : Bool) → Mild (if b then moved_up to p else p) q → MovedUp by at p q
  moves false m = moved-mild by at p q m
  moves true m = moved-to by at to p q late m

pub at-moved : (by at n : ℕ) (f : PairRecord → PairRecord) (p : PairRecord) → MovedUp by at p (f p) → MovedUp by at p (change_at n f p)
at-moved by at n f p m = from (is_numbered n p) where
  from : (b : Bool) → MovedUp by at p (if b then f p else p)
  from true = m
  from false = moved-mild by at p p (mild-same p)

pub lead-moved : (both : Bool) (by at : ℕ) (p q : PairRecord) → by < at → MovedUp by at p q → lead both by q ≤ lead both by p
lead-moved both by at p q late m =
    let e : is_early by q.due q.checks ≡ is_early by p.due p.checks = ap (λ b. b || sent_by by q.checks) (m.early late) ∙ ap (λ k. is_early by p.due k.0) m.kept in
    subst (λ b. weight both q.nomination b ≤ lead both by p) (sym e) (weight-becomes both p.nomination q.nomination (is_early by p.due p.checks) m.nomination)

-- ---- lists of pairs

-- a pair with the number exists, due at this time, with these checks and this consent
abbrev pub Fixed : ℕ → ℕ → Kept → List PairRecord → Type 0
Fixed n d k ps = (q : PairRecord) × Has ps q × (q.number ≡ n) × (q.due ≡ Some d) × (kept_of q ≡ k)

-- If the time is before `at`, no more checks of the pairs that count are left than before, except for one by each added pair if nominations
-- count. If the pair with the number was due by then, it is due as it was.
pub record Onward (n by at : ℕ) (xs : List PairRecord) (k : ℕ) (ys : List PairRecord) (m : ℕ) : Type 0 where
  pub less : (w : Measure) → by < at → leads w by ys + formed_by w k ≤ leads w by xs + formed_by w m
  pub fixed : (d : ℕ) (k : Kept) → d ≤ at → Fixed n d k xs → Fixed n d k ys

module _ (n by at : ℕ) where
  pub onward-same : (xs : List PairRecord) (k : ℕ) → Onward n by at xs k xs k
  onward-same xs k = record { less = λ w late. omega arith; fixed = λ d cs le f. f }

  pub onward-on : (xs ys zs : List PairRecord) (i k m : ℕ) → Onward n by at xs i ys k → Onward n by at ys k zs m → Onward n by at xs i zs m
  onward-on xs ys zs i k m a b = record {
    less = λ w late. joined (formed_by w i) (formed_by w k) (formed_by w m) (leads w by xs) (leads w by ys) (leads w by zs) (a.less w late) (b.less w late);
    fixed = λ d cs le f. b.fixed d cs le (a.fixed d cs le f);
  } where
    joined : (i k m x y z : ℕ) → y + i ≤ x + k → z + k ≤ y + m → z + i ≤ x + m
    joined i k m x y z h l = omega (arith, h, l)

  pub onward-each : (f : PairRecord → PairRecord) (xs : List PairRecord) (k : ℕ) → ((p : PairRecord) → MovedUp by at p (f p)) → Onward n by at xs k (map f xs) k
  onward-each f xs k moved = record {
    less = λ w late. (let le : leads w by (map f xs) ≤ leads w by xs = leads-map w by f xs (λ p. own-le w by p (f p) (moved p).number (lead-moved w.both by at p (f p) late (moved p))) in omega (arith, le));
    fixed = λ d cs le (q, has, is, due, checks). (f q, Has-mapped f xs q has, (moved q).number ∙ is, (moved q).fixed d le due, (moved q).kept ∙ checks);
  }

  has-front : (xs : List PairRecord) (x y : PairRecord) → Has xs y → Has (xs ++ x ∷ []) y
  has-front [] x y h = absurd h
  has-front (z ∷ zs) x y (inl e) = inl e
  has-front (z ∷ zs) x y (inr h) = inr (has-front zs x y h)

  pub onward-adds : (xs : List PairRecord) (k l r priority : ℕ) → Onward n by at xs k (xs ++ new_pair k l r priority ∷ []) (k + 1)
  onward-adds xs k l r priority = record {
    less = λ w late. (let le : leads w by (xs ++ new_pair k l r priority ∷ []) ≤ leads w by xs + one_if w.both = leads-push w by (one_if w.both) (new_pair k l r priority) xs (one (w.skips k) w.both) in counted w.both (leads w by (xs ++ new_pair k l r priority ∷ [])) (leads w by xs) le);
    fixed = λ d cs le (q, has, is, due, checks). (q, has-front xs (new_pair k l r priority) q has, is, due, checks);
  } where
    one : (b both : Bool) → (if b then 0 else 0 + one_if both) ≤ one_if both
    one true both = omega arith
    one false both = omega arith

    counted : (both : Bool) (x y : ℕ) → x ≤ y + one_if both → x + (if both then k else 0) ≤ y + (if both then k + 1 else 0)
    counted true x y le = omega (arith, le)
    counted false x y le = omega (arith, le)

  has-set : (xs : List PairRecord) (i : ℕ) (p after q : PairRecord) → slice_get xs i ≡ Some p → (q ≡ p → ⊥) → Has xs q → Has (slice_set xs i after) q
  has-set [] i p after q at apart has = absurd has
  has-set (x ∷ xs) zero p after q at apart (inl e) = absurd (apart (sym e ∙ some_is x p at))
  has-set (x ∷ xs) zero p after q at apart (inr has) = inr has
  has-set (x ∷ xs) (suc i) p after q at apart (inl e) = inl e
  has-set (x ∷ xs) (suc i) p after q at apart (inr has) = inr (has-set xs i p after q at apart has)

  pub onward-set : (xs : List PairRecord) (k i : ℕ) (p after : PairRecord) → slice_get xs i ≡ Some p → (p.number ≡ n → ⊥) → ((w : Measure) → own w by after ≤ own w by p)
      → Onward n by at xs k (slice_set xs i after) k
  onward-set xs k i p after place apart le = record {
    less = λ w late. (let less : leads w by (slice_set xs i after) ≤ leads w by xs = leads-set w by xs i p after place (le w) in omega (arith, less));
    fixed = λ d cs before (q, has, is, due, checks). (q, has-set xs i p after q place (λ one. apart (sym (ap (λ (x : PairRecord). x.number) one) ∙ is)) has, is, due, checks);
  }

-- Statements about entries by their numbers stay true when the log grows.
use Rattle.is_stun.specs.declared.header.Class.TheVariants as class
use Rattle.is.proofs.Common.{[], ◌++◌, ◌∷◌, ◌≡◌, ◌⊎◌, ap, Bool, Class, false, inl, inr, length, List, other, Path, refl, Side, slice_get}
use Rattle.is.proofs.Common.{Some, suc, zero, ℕ}
use Rattle.is.proofs.ExternalViews.NetworkModel.{Emitted, Issues, Takes, NoClear, Trace, DistinctChecks}

pub get-push : {X : Type 0} (xs : List X) (n : ℕ) (x y : X) → slice_get xs n ≡ Some x → slice_get (xs ++ y ∷ []) n ≡ Some x
get-push [] n x y h = cc
get-push (a ∷ xs) zero x y h = h
get-push (a ∷ xs) (suc n) x y h = get-push xs n x y h

pub get-last : {X : Type 0} (xs : List X) (y : X) → slice_get (xs ++ y ∷ []) (length xs) ≡ Some y
get-last [] y = refl
get-last (a ∷ xs) y = get-last xs y

pub get-push_cases : {X : Type 0} (xs : List X) (n : ℕ) (x y : X) → slice_get (xs ++ y ∷ []) n ≡ Some x → (slice_get xs n ≡ Some x) ⊎ ((n ≡ length xs) × (y ≡ x))
get-push_cases [] zero x y h = inr (refl, cc)
get-push_cases [] (suc n) x y h = cc
get-push_cases (a ∷ xs) zero x y h = inl h
get-push_cases (a ∷ xs) (suc n) x y h = elim (get-push_cases xs n x y h) [ inl k ↦ inl k | inr k ↦ inr (ap suc k.0, k.1) ]

pub get-append : {X : Type 0} (xs ys : List X) (n : ℕ) (x : X) → slice_get xs n ≡ Some x → slice_get (xs ++ ys) n ≡ Some x
get-append [] ys n x h = cc
get-append (a ∷ xs) ys zero x h = h
get-append (a ∷ xs) ys (suc n) x h = get-append xs ys n x h

module _ (es : List Emitted) (e : Emitted) where
  pub issues-grow : (n : ℕ) (side : Side) (c : Class) (id : List ℕ) (path : Path) (role : Bool) → Issues es n side c id path role → Issues (es ++ e ∷ []) n side c id path role
  issues-grow n side c id path role i = record { entry = i.entry; found = get-push es n i.entry e i.found; side_is = i.side_is; issued = i.issued; role_is = i.role_is }

  pub takes-grow : (n : ℕ) (side : Side) (c : Class) (id : List ℕ) → Takes es n side c id → Takes (es ++ e ∷ []) n side c id
  takes-grow n side c id t = record { entry = t.entry; found = get-push es n t.entry e t.found; side_is = t.side_is; accepted = t.accepted; moved = t.moved }

  pub no_clear-grow : (n : ℕ) (side : Side) → (e.side ≡ Some side → e.clear ≡ false) → NoClear es n side → NoClear (es ++ e ∷ []) n side
  no_clear-grow n side go c m f below found is = elim (get-push_cases es m f e found)
      [ inl was ↦ c m f below was is | inr now ↦ rw (← now.1) (go (rw (← now.1) at is)) ]

  pub trace-grow : (side : Side) (path : Path) → (e.side ≡ Some side → e.clear ≡ false) → Trace es side path → Trace (es ++ e ∷ []) side path
  unfolding takes-grow
  trace-grow side path go t = record {
    id = t.id;
    checked = t.checked;
    delivered = t.delivered;
    replied = t.replied;
    answered = t.answered;
    role = t.role;
    reply_path = t.reply_path;
    reply_role = t.reply_role;
    check = issues-grow t.checked side class.Request t.id path t.role t.check;
    delivery = takes-grow t.delivered (other side) class.Request t.id t.delivery;
    reply = issues-grow t.replied (other side) class.Success t.id t.reply_path t.reply_role t.reply;
    answer = takes-grow t.answered side class.Success t.id t.answer;
    in_order = t.in_order;
    no_clear = no_clear-grow t.checked side go t.no_clear;
  }

issues-append : (es fs : List Emitted) (n : ℕ) (side : Side) (c : Class) (id : List ℕ) (path : Path) (role : Bool) → Issues es n side c id path role → Issues (es ++ fs) n side c id path role
issues-append es fs n side c id path role i = record { entry = i.entry; found = get-append es fs n i.entry i.found; side_is = i.side_is; issued = i.issued; role_is = i.role_is }

pub distinct-append : (es fs : List Emitted) → DistinctChecks (es ++ fs) → DistinctChecks es
distinct-append es fs d i j id p q s t b c x y = d i j id p q s t b c (issues-append es fs i s class.Request id p b x) (issues-append es fs j t class.Request id q c y)

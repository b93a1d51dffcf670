-- The last checks stay the last without the first one, and a check with an id is at the index that is found.
use Rattle.is_pair.proofs.Common.{[], ◌+◌, ◌-◌, ◌<◌, ◌||◌, ◌∙◌, ◌∷◌, ◌≡◌, ap, arith, Bool, Bor, bytes_eq-Decides, Check, cond, drop, false}
use Rattle.is_pair.proofs.Common.{find, get_or, has_id, is_kept, is_some, IsCheckAt, last_checks, length, List, list_any, None, Option}
use Rattle.is_pair.proofs.Common.{option_copied, position, position-Some, position_from, position_from-zero, refl, slice_get_read, Some}
use Rattle.is_pair.proofs.Common.{suc, sym, true, ℕ}

-- the first check is none of the last n
pub last_checks-drop : (n : ℕ) (checks : List Check) → n < length checks → last_checks n (drop 1 checks) ≡ last_checks n checks
last_checks-drop n [] many = absurd (omega arith)
last_checks-drop n (c ∷ cs) many =
    let rest : suc (length cs) - n ≡ suc (length cs - n) = omega arith in
    rw rest refl

pub is_some-find : {X : Type 0} (p : X → Bool) (xs : List X) → is_some (find p xs) ≡ list_any p xs
is_some-find p [] = refl
is_some-find p (x ∷ xs) =
    elim (p x) as (λ b. is_some (cond b (Some x) (find p xs)) ≡ (b || list_any p xs)) [
      | true ↦ refl
      | false ↦ is_some-find p xs
    ]

pub is_some-option_copied : {X : Type 0} (r : Option (Bor X)) → is_some (option_copied r) ≡ is_some r
is_some-option_copied None = refl
is_some-option_copied (Some x) = refl

-- a check with the id is at the index that was found
pub found_at : (id : List ℕ) (checks : List Check) (place : ℕ) (c : Check) → position (has_id id) checks ≡ Some place → c ≡ get_or checks place c → IsCheckAt checks id place c
found_at id checks place c found read =
    let at = position-Some (has_id id) checks place c found in
    let same : has_id id c ≡ true = ap (has_id id) read ∙ at.1 in
    (slice_get_read checks (length checks) place c refl at.0 read, (bytes_eq-Decides c.id id).0 same)

pub list_any-no_position : {X : Type 0} (p : X → Bool) (i : ℕ) (xs : List X) → position_from p i xs ≡ None → list_any p xs ≡ false
list_any-no_position p i [] none = refl
list_any-no_position p i (x ∷ xs) none =
    (elim (p x) as (λ b. cond b (Some i) (position_from p (i + 1) xs) ≡ None → (b || list_any p xs) ≡ false) [
      | true ↦ λ e. cc
      | false ↦ list_any-no_position p (i + 1) xs
    ]) none

-- a pending transaction is found
pub found_where_kept : (id : List ℕ) (checks : List Check) → is_kept id checks ≡ true → None ≡ position (has_id id) checks → ⊥
found_where_kept id checks kept none =
    let nowhere = list_any-no_position (has_id id) 0 checks (sym (none ∙ position_from-zero (has_id id) checks)) in
    cc

-- A check that is found by its id is among the checks and has the id.
use Rattle.std.proofs.Math.Bool.{beq}
use Rattle.is_rules.proofs.Common.{◌≡◌, Bool, bytes_eq-Decides, Check, false, find, Has, has_id, List, refl, same, Some, true, ℕ}
use Rattle.is_rules.proofs.FunctionProofs.FoundElements.{find-Some}

-- a check that is found by its id
pub check-found : (id : List ℕ) (checks : List Check) (c : Check) → find (has_id id) checks ≡ Some c → Has checks c × (c.id ≡ id)
check-found id checks c found =
    let is = find-Some (has_id id) checks c found in
    (is.0, (bytes_eq-Decides c.id id).0 is.1)

pub same-beq : (a b : Bool) → beq a b ≡ same a b
same-beq true true = refl
same-beq true false = refl
same-beq false true = refl
same-beq false false = refl

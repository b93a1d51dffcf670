-- What is chosen by a test.
use Rattle.std.proofs.Common.{◌≡◌, Bool, true, false, cond, refl}

pub by_cond : {S : Type 0} (F : S → Type 0) (b : Bool) (x y : S) → (b ≡ true → F x) → (b ≡ false → F y) → F (cond b x y)
by_cond F true x y h k = h refl
by_cond F false x y h k = k refl

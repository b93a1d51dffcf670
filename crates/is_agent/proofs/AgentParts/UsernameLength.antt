-- The USERNAME of a check is short enough to be written.
use Rattle.std.proofs.Common.{◌≡◌, ◌≤◌, false, length, Some, arith, length-append}
use Rattle.std.proofs.lemmas.Grind.{common_steps}
use Rattle.is_rules.specs.declared.credentials.IceCreds.{IceCreds}
use Rattle.is_rules.specs.Fitting.{USERNAME_LIMIT, are_too_long}
use Rattle.is_rules.specs.Checking.{username_between}

pub username-short : (own peer : IceCreds) → are_too_long own (Some peer) ≡ false → length (username_between peer own) ≤ USERNAME_LIMIT
username-short own peer fits = rw length-append (grind (arith, common_steps))

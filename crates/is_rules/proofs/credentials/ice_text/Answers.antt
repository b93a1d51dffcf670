use Rattle.std.specs.Str.{IsAscii}
use Rattle.std.proofs.lemmas.Str.{IsUtf8-from_ascii}
use Rattle.std.proofs.lemmas.Str.Ascii.{IsAscii-nil, IsAscii-cons}
use Rattle.is_rules.proofs.Common.{[], ◌%◌, ◌<◌, ◌∷◌, arith, false≢true, ice_char, ice_text, List, nat_tests, take, ℕ}
use Rattle.is_rules.proofs.credentials.ice_text.Goals as goal

ice_char-small : (n : ℕ) → n < 64 → ice_char n < 128
ice_char-small n h = grind (arith, nat_tests)

ice_text-ascii : (bytes : List ℕ) → IsAscii (ice_text bytes)
ice_text-ascii [] = IsAscii-nil
ice_text-ascii (b ∷ bytes) = IsAscii-cons (ice_char (b % 64)) (ice_text bytes) (ice_char-small (b % 64) (omega arith)) (ice_text-ascii bytes)

-- the characters are UTF-8
pub unreachable-requires : goal.unreachable-requires
unreachable-requires c =
    absurd (false≢true (c.in-Err.ensures.succeeds (rw c.loop-byte.invariant.0 (IsUtf8-from_ascii _ (ice_text-ascii (take c.loop-byte.byte-index c.args.bytes.now))))))

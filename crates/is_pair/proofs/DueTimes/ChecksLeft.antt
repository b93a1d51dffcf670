-- How many checks of a pair have no response.
use Rattle.is_pair.proofs.Common.{[], ◌<◌, ◌≡◌, ◌≤◌, arith, Check, false, is_answered, length, length-reverse, List, None, Option, position}
use Rattle.is_pair.proofs.Common.{position-Some, refl, reverse, Some, unanswered_count, unwrap_or, ℕ}

-- at most all: so checks are left if fewer than `max_retransmits` are stored
pub unanswered-most : (cs : List Check) → unanswered_count cs ≤ length cs
unanswered-most cs = by (position is_answered (reverse cs)) refl where
  by : (o : Option ℕ) → position is_answered (reverse cs) ≡ o → unwrap_or o (length cs) ≤ length cs
  by None is = omega arith
  by (Some i) is =
      let lt : i < length (reverse cs) = (position-Some is_answered (reverse cs) i (record { id = []; sent = 0; answered = None; nominated = false; controlling = false }) is).0 in
      let same : length (reverse cs) ≡ length cs = length-reverse cs in
      omega (arith, lt, same)

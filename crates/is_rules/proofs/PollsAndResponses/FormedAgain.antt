-- The pair of the path that was left is formed again, or none is: then no path is left.
use Rattle.is_candidate.specs.Candidates.{candidate_at}
use Rattle.is_pair.specs.Multiset.{is_between}
use Rattle.is_rules.specs.Again.{formed_again, may_form_again, number_after, pairs_with}
use Rattle.is_rules.specs.Forming.{is_alive, is_partner}
use Rattle.is_rules.specs.Limit.{is_mapped}
use Rattle.is_rules.proofs.Common.{◌&&◌, ◌<◌, ◌≡◌, AgentRecord, arith, Bool, false, formed, if◌then◌else◌, length, list_any, MAX}
use Rattle.is_rules.proofs.Common.{nat_lt, nat_tests, None, not, Option, option_and_then, PairRecord, refl, Some, sym, true, with_pair, ℕ}

-- no path is left
abbrev pub forgotten : {H P : Type 0} → AgentRecord H P → AgentRecord H P
forgotten s = record s { left = None }

-- the pair of these candidates may be formed again
pub record MayForm {H P : Type 0} (s : AgentRecord H P) (i j : ℕ) : Type 0 where
  pub in_local : i < length s.local
  pub in_remote : j < length s.remote
  pub own : is_mapped (candidate_at s.local i) ≡ false
  pub unmatched : list_any (is_between i j) s.pairs ≡ false
  pub number : s.next_number < MAX

off : (b : Bool) → not b ≡ true → b ≡ false
off true h = sym h
off false h = refl

all-seven : (a b c d e f g : Bool) → ((a && b && c && d && e && f) && g) ≡ true
    → (a ≡ true) × (b ≡ true) × (d ≡ true) × (f ≡ true) × (g ≡ true)
all-seven true true true true true true g h = (refl, refl, refl, refl, h)
all-seven true true true true true false g h = absurd (cc)
all-seven true true true true false f g h = absurd (cc)
all-seven true true true false e f g h = absurd (cc)
all-seven true true false d e f g h = absurd (cc)
all-seven true false c d e f g h = absurd (cc)
all-seven false b c d e f g h = absurd (cc)

lt-from : (m n : ℕ) → nat_lt m n ≡ true → m < n
lt-from m n h = grind (arith, nat_tests, h)

may-form : {H P : Type 0} (s : AgentRecord H P) (at : ℕ × ℕ) → may_form_again s at ≡ true → MayForm s at.0 at.1
may-form s at h =
    let k = all-seven (nat_lt at.0 (length s.local)) (nat_lt at.1 (length s.remote)) (is_alive (candidate_at s.local at.0)) (not (is_mapped (candidate_at s.local at.0)))
    (is_partner (candidate_at s.local at.0) (candidate_at s.remote at.1)) (not (list_any (is_between at.0 at.1) s.pairs)) (nat_lt s.next_number MAX) h in record {
      in_local = lt-from at.0 (length s.local) k.0;
      in_remote = lt-from at.1 (length s.remote) k.1;
      own = off (is_mapped (candidate_at s.local at.0)) k.2;
      unmatched = off (list_any (is_between at.0 at.1) s.pairs) k.3;
      number = lt-from s.next_number MAX k.4;
    }

module _ {H P : Type 0} where
  -- What holds without the path that was left, with one more pair or without, holds of the agent that forms it again.
  pub each-way : (Holds : AgentRecord H P → Type 0) (s : AgentRecord H P) → Holds (forgotten s)
      → ((i j : ℕ) → MayForm s i j → Holds (with_pair (formed s i j) (forgotten s))) → Holds (formed_again s)
  each-way Holds s without with = by s.left where
    after : Option PairRecord → AgentRecord H P
    after o = record s { pairs = pairs_with o s.pairs; next_number = number_after o s.next_number; left = None }

    one : (at : ℕ × ℕ) (b : Bool) → may_form_again s at ≡ b → Holds (after (if b then Some (formed s at.0 at.1) else None))
    one at true is = with at.0 at.1 (may-form s at is)
    one at false is = without

    by : (o : Option (ℕ × ℕ)) → Holds (after (option_and_then (λ (at : ℕ × ℕ). if may_form_again s at then Some (formed s at.0 at.1) else None) o))
    by None = without
    by (Some at) = one at (may_form_again s at) refl

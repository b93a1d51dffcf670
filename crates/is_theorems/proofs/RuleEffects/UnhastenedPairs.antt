-- Pairs that stay as they are when others become due next: those that are not valid, those that are due, and urgent ones except the selected one.
use Rattle.is_pair.specs.declared.pair.states.NominationState.TheVariants.{None as Unnominated}
use Rattle.is_theorems.proofs.Common.{◌&&◌, ◌+◌, ◌||◌, ◌∙◌, ◌≡◌, ◌≤◌, ◌⊎◌, AgentRecord, ap, arith, Attempt, awaits_nomination, Bool, due_time_of}
use Rattle.is_theorems.proofs.Common.{false, gives_way, has_few_unanswered, hastened, if◌then◌else◌, inl, inr, is_doubted, is_due_next, is_eligible, is_modern}
use Rattle.is_theorems.proofs.Common.{is_named_by, is_nominated, is_nominated_state, is_urgent, is_valid, list_any, min, moved_up, nat_lt, Nominated}
use Rattle.is_theorems.proofs.Common.{nominates_first, NominationState, None, not, numbers, Option, option_map, PairRecord, refl, Some, StunTiming}
use Rattle.is_theorems.proofs.Common.{Success, true, unwrap_or, needs_check, ℕ}

-- it does not pass the test
unless-passes : (test : PairRecord → Bool) (now : ℕ) (p : PairRecord) → test p ≡ false → hastened test now p ≡ p
unless-passes test now p off = ap (λ b. if b then moved_up (now + 1) p else p) off

both-off : (b x y : Bool) → x ≡ false → y ≡ false → (if b then x else y) ≡ false
both-off true x y x_off y_off = x_off
both-off false x y x_off y_off = y_off

-- ---- pairs that are not valid

off-middle : (c v n : Bool) → v ≡ false → (c && v && n) ≡ false
off-middle true true n is = absurd (let no : true ≡ false = is in cc)
off-middle true false n is = refl
off-middle false v n is = refl

off-first : (v n : Bool) → v ≡ false → (v && n) ≡ false
off-first true n is = absurd (let no : true ≡ false = is in cc)
off-first false n is = refl

third-off : (a b c d e f : Bool) → c ≡ false → (a && b && c && d && e && f) ≡ false
third-off true true true d e f is = absurd (let no : true ≡ false = is in cc)
third-off true true false d e f is = refl
third-off true false c d e f is = refl
third-off false b c d e f is = refl

pub fourth-off : (a b c d e f : Bool) → d ≡ false → (a && b && c && d && e && f) ≡ false
fourth-off true true true true e f is = absurd (let no : true ≡ false = is in cc)
fourth-off true true true false e f is = refl
fourth-off true true false d e f is = refl
fourth-off true false c d e f is = refl
fourth-off false b c d e f is = refl

pub fifth-off : (a b c d e f : Bool) → e ≡ false → (a && b && c && d && e && f) ≡ false
fifth-off true true true true true f is = absurd (let no : true ≡ false = is in cc)
fifth-off true true true true false f is = refl
fifth-off true true true false e f is = refl
fifth-off true true false d e f is = refl
fifth-off true false c d e f is = refl
fifth-off false b c d e f is = refl

fourth-on : (a b c d e f : Bool) → (a && b && c && d && e && f) ≡ true → d ≡ true
fourth-on true true true true e f h = refl
fourth-on true true true false e f h = absurd (let no : false ≡ true = h in cc)
fourth-on true true false d e f h = absurd (let no : false ≡ true = h in cc)
fourth-on true false c d e f h = absurd (let no : false ≡ true = h in cc)
fourth-on false b c d e f h = absurd (let no : false ≡ true = h in cc)

module _ {H P : Type 0} where
  pub invalid-unneeded : (a : AgentRecord H P) (p : PairRecord) → is_valid p ≡ false → needs_check a p ≡ false
  invalid-unneeded a p invalid =
      fifth-off (is_modern a.timing) (not a.lite) (not (numbers a)) (is_named_by a.selected_pair p) (is_eligible a.controlling p)
      (if a.controlling then a.nomination_due else is_doubted a p) (off-first (is_valid p) (a.controlling || is_nominated p) invalid)

  -- nominations have numbers
  pub numbered-unneeded : (a : AgentRecord H P) (p : PairRecord) → numbers a ≡ true → needs_check a p ≡ false
  numbered-unneeded a p numbered =
      third-off (is_modern a.timing) (not a.lite) (not (numbers a)) (is_named_by a.selected_pair p) (is_eligible a.controlling p)
      (if a.controlling then a.nomination_due else is_doubted a p) (ap not numbered)

  needed-named : (a : AgentRecord H P) (p : PairRecord) → needs_check a p ≡ true → is_named_by a.selected_pair p ≡ true
  needed-named a p h =
      fourth-on (is_modern a.timing) (not a.lite) (not (numbers a)) (is_named_by a.selected_pair p) (is_eligible a.controlling p)
      (if a.controlling then a.nomination_due else is_doubted a p) h

  invalid-next : (now : ℕ) (a : AgentRecord H P) (p : PairRecord) → is_valid p ≡ false → is_due_next now a p ≡ false
  invalid-next now a p invalid =
      both-off (list_any (gives_way now a) a.pairs) (awaits_nomination a.controlling p) (needs_check a p)
      (off-middle a.controlling (is_valid p) (not (is_nominated p)) invalid) (invalid-unneeded a p invalid)

  pub invalid-stays : (now : ℕ) (a : AgentRecord H P) (p : PairRecord) → is_valid p ≡ false → hastened (is_due_next now a) now p ≡ p
  invalid-stays now a p invalid = unless-passes (is_due_next now a) now p (invalid-next now a p invalid)

-- ---- pairs that are due

pub due-stays : (test : PairRecord → Bool) (now : ℕ) (t : StunTiming) (p : PairRecord) → due_time_of now t p ≤ now → hastened test now p ≡ p
due-stays test now t p due = by (test p) where
  least : (o : Option ℕ) (computed : ℕ) → unwrap_or o computed ≤ now → option_map (min (now + 1)) o ≡ o
  least None computed le = refl
  least (Some d) computed le = let early : d ≤ now = le in ap (λ n. Some n) (let same : min (now + 1) d ≡ d = omega (arith, early) in same)

  by : (b : Bool) → (if b then moved_up (now + 1) p else p) ≡ p
  by true = ap (λ (o : Option ℕ). record p { due = o }) (least p.due _ due)
  by false = refl

-- ---- urgent pairs

urgent-off : (c v r few : Bool) (n : NominationState) → ((r && not v) || nominates_first n few) ≡ true → (c && v && not (is_nominated_state n)) ≡ false
urgent-off false v r few n is = refl
urgent-off true false r few n is = refl
urgent-off true true r few Nominated is = refl
urgent-off true true r few Attempt is = refl
urgent-off true true r few Success is = refl
urgent-off true true true few Unnominated is = absurd (let no : false ≡ true = is in cc)
urgent-off true true false few Unnominated is = absurd (let no : false ≡ true = is in cc)

-- an urgent pair that is hastened is the selected one
pub urgent-stays : {H P : Type 0} (now : ℕ) (a : AgentRecord H P) (p : PairRecord) → is_urgent p ≡ true
    → (hastened (is_due_next now a) now p ≡ p) ⊎ (is_named_by a.selected_pair p ≡ true)
urgent-stays now a p urgent = by (list_any (gives_way now a) a.pairs) (needs_check a p) refl refl where
  silent : awaits_nomination a.controlling p ≡ false
  silent = urgent-off a.controlling (is_valid p) (nat_lt 0 p.requests) (has_few_unanswered p) p.nomination urgent

  by : (b w : Bool) → list_any (gives_way now a) a.pairs ≡ b → needs_check a p ≡ w
      → (hastened (is_due_next now a) now p ≡ p) ⊎ (is_named_by a.selected_pair p ≡ true)
  by true w gives needs = inl (unless-passes (is_due_next now a) now p (ap (λ b. if b then awaits_nomination a.controlling p else needs_check a p) gives ∙ silent))
  by false false gives needs = inl (unless-passes (is_due_next now a) now p (ap (λ b. if b then awaits_nomination a.controlling p else needs_check a p) gives ∙ needs))
  by false true gives needs = inr (needed-named a p needs)

-- A `handle_timeout` call that leaves a silent path leaves no more checks of other pairs before one that is due, and other pairs as they are,
-- except that they may be due sooner.
use Rattle.is_theorems.proofs.Common.{◌+◌, ◌<◌, ◌≡◌, ◌≤◌, ◌⊎◌, AgentRecord, ap, arith, Bool, due_time_of, false}
use Rattle.is_theorems.proofs.Common.{gives_way, Has, hastened, if◌then◌else◌, inl, inr, is_some, is_valid, min, moved_up, None, not}
use Rattle.is_theorems.proofs.Common.{Option, option_map, PairRecord, path_left, refl, silent_gone, Some, StunTiming, subst, sym, true}
use Rattle.is_theorems.proofs.Common.{unwrap_or, ℕ}
use Rattle.is_theorems.proofs.EarlierChecks.ChangedPairs.{lead-moved, mild-same, moved-mild, moved-to, MovedUp}
use Rattle.is_theorems.proofs.EarlierChecks.ChecksOfOtherPairs.{leads, leads-filter, leads-map, own-le, Measure}
use Rattle.is_theorems.proofs.RuleEffects.HastenedPairs.{by-hastened, left-has, only-due, Hastens}
use Rattle.is_theorems.proofs.RuleEffects.UnhastenedPairs.{invalid-stays}

-- ---- one pair

-- due by a time, and not valid unless its due time is fixed
abbrev pub ReadyBy : ℕ → ℕ → StunTiming → PairRecord → Type 0
ReadyBy by now t p = (due_time_of now t p ≤ by) × ((is_valid p ≡ false) ⊎ (is_some p.due ≡ true))

sooner-fixed : (at by computed anew : ℕ) (o : Option ℕ) → is_some o ≡ true → unwrap_or o computed ≤ by → unwrap_or (option_map (min at) o) anew ≤ by
sooner-fixed at by computed anew None fixed le = absurd (let no : false ≡ true = fixed in cc)
sooner-fixed at by computed anew (Some d) fixed le = let reached : d ≤ by = le in omega (arith, reached)

still-fixed : (at : ℕ) (o : Option ℕ) → is_some o ≡ true → is_some (option_map (min at) o) ≡ true
still-fixed at None fixed = fixed
still-fixed at (Some d) fixed = refl

-- it is so still
ready-hastened : {H P : Type 0} (a : AgentRecord H P) (by now : ℕ) (t : StunTiming) (p : PairRecord) → ReadyBy by now t p → ReadyBy by now t (hastened (Hastens now a) now p)
ready-hastened a by now t p (due, inl invalid) = subst (λ (x : PairRecord). ReadyBy by now t x) (sym (invalid-stays now a p invalid)) (due, inl invalid)
ready-hastened a by now t p (due, inr fixed) =
    by-hastened (λ x. ReadyBy by now t x) (Hastens now a) now p (λ at. (sooner-fixed at by _ _ p.due fixed due, inr (still-fixed at p.due fixed))) (due, inr fixed)

hastened-moved : (test : PairRecord → Bool) (by now : ℕ) (p : PairRecord) → MovedUp by now p (hastened test now p)
hastened-moved test by now p = from (test p) where
  from : (b : Bool) → MovedUp by now p (if b then moved_up (now + 1) p else p)
  from true = moved-to by now (now + 1) p (moved_up (now + 1) p) (omega arith) (mild-same (moved_up (now + 1) p))
  from false = moved-mild by now p p (mild-same p)

-- ---- the pairs that are left

module _ {H P : Type 0} (now : ℕ) (a : AgentRecord H P) where
  -- as the pair is left
  abbrev pub as-left : PairRecord → PairRecord
  as-left p = record p { due = (hastened (Hastens now a) now p).due }

  pub there-left : (p : PairRecord) → Has a.pairs p → gives_way now a p ≡ false → Has (path_left now a).pairs (as-left p)
  there-left p has keeps = subst (λ (x : PairRecord). Has (path_left now a).pairs x) (only-due (Hastens now a) now p) (left-has now a p has keeps)

  pub ready-left : (by : ℕ) (t : StunTiming) (p : PairRecord) → ReadyBy by now t p → ReadyBy by now t (as-left p)
  ready-left by t p ready = subst (λ (x : PairRecord). ReadyBy by now t x) (only-due (Hastens now a) now p) (ready-hastened a by now t p ready)

  -- no more checks of other pairs are left
  pub leads-left : (by : ℕ) → by < now → (w : Measure) → leads w by (path_left now a).pairs ≤ leads w by a.pairs
  leads-left by late w =
      let k : leads w by (path_left now a).pairs ≤ leads w by (silent_gone now a).pairs =
      leads-map w by (hastened (Hastens now a) now) (silent_gone now a).pairs
      (λ p. own-le w by p (hastened (Hastens now a) now p) (ap (λ (x : PairRecord). x.number) (only-due (Hastens now a) now p))
      (lead-moved w.both by now p (hastened (Hastens now a) now p) late (hastened-moved (Hastens now a) by now p))) in
      let l : leads w by (silent_gone now a).pairs ≤ leads w by a.pairs = leads-filter w by (λ q. not (gives_way now a q)) a.pairs in
      omega (arith, k, l)

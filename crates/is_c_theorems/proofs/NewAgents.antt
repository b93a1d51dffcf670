-- A slot after `is_ice_agent_new`. What mutants/specifications changes is read by tactics.
use Rattle.is_rules.specs.Fitting.{are_too_long}
use Rattle.is_c_theorems.specs.Headline.{NewAgentsAreFresh}
use Rattle.is_c_theorems.proofs.Common.{◌∙◌, ◌≡◌, ap, Err, false, fresh_held, HeldRecord, IceCreds, inl, inr, is_ok, List, MakesAt}
use Rattle.is_c_theorems.proofs.Common.{MakesHeld, None, OK, Ok, Option, refl, Some, sym, ℕ, ℤ}
use Rattle.is_c_theorems.proofs.CallsAsSteps.{never, either, why_bad}

ok_is : (why : ℤ) → OK ≡ why → is_ok why ≡ false → {Z : Type 0} → Z
ok_is why is bad = never (sym bad ∙ sym (ap is_ok is))

made : (creds : IceCreds) (tie_breaker : ℕ) (new : Option HeldRecord) → MakesHeld creds tie_breaker OK new → new ≡ Some (fresh_held creds tie_breaker)
made creds tie_breaker new h = either (are_too_long creds None) (λ k. ok_is _ k.0 refl) (λ k. elim k [ inl (ok, is) ↦ is | inr (memory, none) ↦ ok_is _ memory refl ]) h

made_at : (ufrag pass : List ℕ) (tie_breaker : ℕ) (new : Option HeldRecord) → MakesAt ufrag pass tie_breaker None OK new
    → new ≡ Some (fresh_held (record { ufrag = ufrag; pass = pass }) tie_breaker)
made_at ufrag pass tie_breaker new (Ok creds, is, h) =
    made creds tie_breaker new h ∙ ap (λ (c : IceCreds). Some (fresh_held c tie_breaker)) is
made_at ufrag pass tie_breaker new (Err why, is, h) = ok_is why h.0 (why_bad ufrag pass why is)

pub fresh_new : NewAgentsAreFresh
fresh_new ufrag pass tie_breaker new makes = search (made_at ufrag pass tie_breaker new (search makes))

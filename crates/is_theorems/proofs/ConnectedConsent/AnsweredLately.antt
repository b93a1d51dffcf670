-- A connected agent that is never lite has a response to a recent check on its path, or a recent check of the peer.
use Rattle.is_theorems.proofs.Common.{◌&&◌, ◌*◌, ◌+◌, ◌-◌, ◌<◌, ◌||◌, ◌≡◌, ◌⊎◌, AgentRecord, AreNeverLite, arith, Bool, CandidateRecord}
use Rattle.is_theorems.proofs.Common.{ConnectedAreAnswered, Consent, consent_of, false, HandleTimeout, has_consent, inl, inr, is_heard}
use Rattle.is_theorems.proofs.Common.{is_nominated, is_some, is_valid, IsAliveBy, later, List, nat_lt, nat_tests, None, not}
use Rattle.is_theorems.proofs.Common.{Option, option_map_or, PairRecord, refl, SECOND, Some, subst, sym, true, ℕ}
use Rattle.is_theorems.proofs.BasicLemmas.EqualAddresses.{both}
use Rattle.is_theorems.proofs.ConnectedConsent.AnsweredExecutions.{along, steps}
use Rattle.is_theorems.proofs.ConnectedConsent.AnsweredPairs.{IsFirm}
use Rattle.is_theorems.proofs.ConnectedConsent.ConnectedExecutions.{connected-have-consent}

less : (n m : ℕ) → nat_lt n m ≡ true → n < m
less n m h = grind (arith, nat_tests, h)

alive : (c : Consent) (now : ℕ) (p : PairRecord) → is_some p.consented ≡ true → has_consent (Some c) now p ≡ true → IsAliveBy c now p
alive c now p some consent = from p.consented refl some consent where
  no-case : false ≡ true → ⊥
  no-case h = cc

  Heard : Type 0
  Heard = (c.strict ≡ false) × ((at : ℕ) × (p.last_request ≡ Some at) × (now - at < 15 * SECOND))

  arrived : c.strict ≡ false → (o : Option ℕ) → p.last_request ≡ o → nat_lt now (option_map_or (λ at. at + 15 * SECOND) o 0) ≡ true → Heard
  arrived loose None is h = absurd (let lt = less now 0 h in let no : ⊥ = omega (arith, lt) in no)
  arrived loose (Some at) is h = (loose, (at, is, (let lt = less now (at + 15 * SECOND) h in omega (arith, lt))))

  heard : (strict : Bool) → c.strict ≡ strict → (not strict && is_heard now p) ≡ true → Heard
  heard true is h = absurd (no-case h)
  heard false is h = arrived is p.last_request refl h

  recent : (sent : ℕ) (b : Bool) → nat_lt now (later sent c.timeout.0) ≡ b → (b || (not c.strict && is_heard now p)) ≡ true → (now < later sent c.timeout.0) ⊎ Heard
  recent sent true lt h = inl (less now (later sent c.timeout.0) lt)
  recent sent false lt h = inr (heard c.strict refl h)

  from : (o : Option ℕ) → p.consented ≡ o → is_some o ≡ true
      → (option_map_or (λ at. nat_lt now (later at c.timeout.0)) o true || (not c.strict && is_heard now p)) ≡ true → IsAliveBy c now p
  from None is none h = absurd (no-case none)
  from (Some sent) is there h = elim (recent sent (nat_lt now (later sent c.timeout.0)) refl h) [
    | inl lt ↦ (sent, is, inl (omega (arith, lt)))
    | inr k ↦ (let loose : c.strict ≡ false = k.0 in let young = k.1.2 in (sent, is, inr (search loose, (k.1.0, k.1.1, omega (arith, young)))))
  ]

module _ {H P : Type 0} (mac : H → List ℕ → List ℕ → List ℕ) where
  pub connected-are-answered : (answers : P → CandidateRecord → ℕ → ℕ → Type 0) → ConnectedAreAnswered mac answers
  connected-are-answered answers before now timeout last c k full rule =
      let never : AreNeverLite before = search full in
      let ruled : consent_of last.timing ≡ Some c = search rule in
      let begins : IsFirm k.first = subst (λ (a : AgentRecord H P). IsFirm a) (sym k.fresh.2) (refl, λ q none. absurd none) in
      let near = along mac answers before k.first k.near never k.execution begins in
      let firm = steps mac answers k.near last k.drawn k.left timeout near (HandleTimeout now) refl k.step in
      let top = connected-have-consent mac answers before now timeout last k in
      let valid = (both (is_valid top.0) (last.controlling || is_nominated top.0) top.2).0 in
      let consent = subst (λ o. has_consent o now top.0 ≡ true) ruled top.4 in
      (top.0, top.1, alive c now top.0 (firm.1 top.0 top.1 valid) consent, top.3)

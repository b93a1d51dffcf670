-- After a `handle_timeout` call that serves no early request each pair has consent, and the responses and requests that it had before.
use Rattle.is_theorems.proofs.Common.{[], ◌&&◌, ◌<◌, ◌||◌, ◌∙◌, ◌∷◌, ◌≡◌, ◌≤◌, AgentRecord, all_scheduled, ap, arith, scheduled}
use Rattle.is_theorems.proofs.Common.{at_timeout, Bool, change_at, ChecksTop, Consent, consent_end, consent_of, Emitted, expired_gone}
use Rattle.is_theorems.proofs.Common.{false, Has, has_consent, HaveConsent, heard_until, IceCreds, if◌then◌else◌, inl, inr}
use Rattle.is_theorems.proofs.Common.{is_answered_lately, is_expired, is_heard, is_numbered, is_pair_expired, is_possible}
use Rattle.is_theorems.proofs.Common.{Issued, later, List, list_any, MaintainsPairs, map, MAX, max, MayCheck, min, nat_lt, nat_tests}
use Rattle.is_theorems.proofs.Common.{nominates_at_once, None, not, Option, option_map_or, PairRecord, Path, refl, RemovesExpired, request_end}
use Rattle.is_theorems.proofs.Common.{Some, Stream, StunTiming, subst, sym, true, ℕ}
use Rattle.is_theorems.proofs.RuleEffects.UnchangedSettings.{either}
use Rattle.is_theorems.proofs.RuleEffects.ChangedPairs.{Has-map}
use Rattle.is_theorems.proofs.DuePairs.AfterNominationAndRemoval.{Base, consent-same, expires-thins, nominates-thins, names-thins, passed}
use Rattle.is_theorems.proofs.DuePairs.FirstDuePair.{next-check}
use Rattle.is_theorems.proofs.BasicLemmas.PairsInTurn.{by-begins, sent-pairs, sent_at}

-- ---- one pair

kept-consents : (lite : Bool) (now : ℕ) (t : StunTiming) (p : PairRecord) → lite ≡ false → not (is_pair_expired lite now t p) ≡ true → has_consent (consent_of t) now p ≡ true
kept-consents true now t p full is = absurd (cc)
kept-consents false now t p full is = left (has_consent (consent_of t) now p) (is_possible now t p) is where
  left : (a b : Bool) → not (not (a && b)) ≡ true → a ≡ true
  left true b h = refl
  left false b h = h

lt-not : (n m : ℕ) → m ≤ n → nat_lt n m ≡ false
lt-not n m h = grind (arith, nat_tests, h)

-- the end of consent has come
pub consent-ended : (c : Consent) (p : PairRecord) (by now : ℕ) → consent_end c p ≤ by → by < MAX → by ≤ now → has_consent (Some c) now p ≡ false
consent-ended c p by now ended early late = at p.consented refl ended where
  neither : (a b : Bool) → a ≡ false → b ≡ false → (a || b) ≡ false
  neither true b h k = h
  neither false b h k = k

  by-rule : (strict : Bool) → (if strict then 0 else min (request_end p) MAX) ≤ by → (not strict && is_heard now p) ≡ false
  by-rule true le = refl
  by-rule false le = lt-not now (request_end p) (omega (arith, le, early, late))

  at : (o : Option ℕ) → p.consented ≡ o → option_map_or (λ at. max (later at c.timeout.0) (heard_until c p)) o MAX ≤ by → has_consent (Some c) now p ≡ false
  at None is le = absurd (let no : ⊥ = omega (arith, le, early) in no)
  at (Some sent) is le =
      neither (is_answered_lately c now p) (not c.strict && is_heard now p)
      (ap (λ o. option_map_or (λ at. nat_lt now (later at c.timeout.0)) o true) is ∙ lt-not now (later sent c.timeout.0) (omega (arith, le, late)))
      (by-rule c.strict (omega (arith, le)))

-- ---- lists of pairs

pub any-none : {X : Type 0} (f : X → Bool) (xs : List X) (x : X) → list_any f xs ≡ false → Has xs x → f x ≡ false
any-none f [] x none has = absurd has
any-none f (y ∷ ys) x none has = by (f y) refl none has (any-none f ys x) where
  by : (b : Bool) → f y ≡ b → (b || list_any f ys) ≡ false → Has (y ∷ ys) x → (list_any f ys ≡ false → Has ys x → f x ≡ false) → f x ≡ false
  by true is h has others = absurd (cc)
  by false is h (inl same) others = ap f (sym same) ∙ is
  by false is h (inr there) others = others h there

-- p and q are one pair, with the same responses and requests
pub record SameConsent (p q : PairRecord) : Type 0 where
  pub number : q.number ≡ p.number
  pub consented : q.consented ≡ p.consented
  pub heard : q.last_request ≡ p.last_request

abbrev pub Leaves : List PairRecord → List PairRecord → Type 0
Leaves old new = (q : PairRecord) → Has new q → (p : PairRecord) × Has old p × SameConsent p q

leaves-on : (xs ys zs : List PairRecord) → Leaves xs ys → Leaves ys zs → Leaves xs zs
leaves-on xs ys zs a b r has =
    let o = b r has in let n = a o.0 o.1 in
    (n.0, n.1, record { number = o.2.number ∙ n.2.number; consented = o.2.consented ∙ n.2.consented; heard = o.2.heard ∙ n.2.heard })

leaves-map : (f : PairRecord → PairRecord) (ps : List PairRecord) → ((p : PairRecord) → SameConsent p (f p)) → Leaves ps (map f ps)
leaves-map f ps same q has = let o = Has-map f ps q has in (o.0, o.1, subst (λ (x : PairRecord). SameConsent o.0 x) o.2 (same o.0))

leaves-all : (ps : List PairRecord) → Leaves ps ps
leaves-all ps q has = (q, has, record { number = refl; consented = refl; heard = refl })

module _ {H P : Type 0} where
  -- ---- removed pairs

  expires-consents : (now : ℕ) (old new : AgentRecord H P) (path : Option Path) → old.lite ≡ false → RemovesExpired now old path new
      → (q : PairRecord) → Has new.pairs q → has_consent (consent_of old.timing) now q ≡ true
  expires-consents now old new path full h = either (list_any (is_expired now old) old.pairs) h
      (λ _ k q has.
      (let there : Has k.0.pairs q = subst (λ (a : AgentRecord H P). Has a.pairs q) k.2 has in
      let o = (nominates-thins 0 (expired_gone now old) k.0 path k.1).1.back q there in
      consent-same (consent_of old.timing) now o.0 q o.2.consented o.2.heard
      ∙ kept-consents old.lite now old.timing o.0 full (passed (λ p. not (is_expired now old p)) old.pairs o.0 o.1)))
      (λ none k q has.
      (let there : Has old.pairs q = subst (λ (a : AgentRecord H P). Has a.pairs q) k.1 has in
      kept-consents old.lite now old.timing q full (ap not (any-none (is_expired now old) old.pairs q none there))))

  module _ (mac : H → List ℕ → List ℕ → List ℕ) where
    -- ---- the check

    abbrev Checks : AgentRecord H P → AgentRecord H P → Type 0
    Checks old new = (new.timing ≡ old.timing) × Leaves old.pairs new.pairs

    check-leaves : (now : ℕ) (remote : Option IceCreds) (old new : AgentRecord H P) (s t : Stream) (issued : Option Issued) → old.lite ≡ false → MayCheck mac now remote old s issued new t → Checks old new
    check-leaves now None old new s t issued full (is, made, drawn) = subst (λ (a : AgentRecord H P). Checks old a) (sym made) (refl, leaves-all old.pairs)
    check-leaves now (Some peer) old new s t issued full h = let k = next-check mac now (Some peer) old new s t issued refl full h in by-next k.0 k.1 k.3 where
      asks : Leaves old.pairs (map (scheduled now old.timing) old.pairs)
      asks = leaves-map (scheduled now old.timing) old.pairs (λ p. record { number = refl; consented = refl; heard = refl })

      by-next : (peer : IceCreds) (next : Option PairRecord) → ChecksTop mac now peer next (all_scheduled now old) s issued new t → Checks old new
      by-next peer None (is, made, drawn) = subst (λ (a : AgentRecord H P). Checks old a) (sym made) (refl, asks)
      by-next peer (Some q) (id, drawn, values, is, made) = subst (λ (a : AgentRecord H P). Checks old a) (sym made) (
        refl,
        leaves-on old.pairs (map (scheduled now old.timing) old.pairs) _ asks
            (subst (λ ps. Leaves (map (scheduled now old.timing) old.pairs) ps) (sym (sent-pairs begins q.number now old.timing old.controlling id (map (scheduled now old.timing) old.pairs)))
            (leaves-map (change_at q.number (sent_at begins now old.timing old.controlling id)) (map (scheduled now old.timing) old.pairs) (λ p. once p (is_numbered q.number p)))),
      ) where
        begins : Bool
        begins = nominates_at_once (all_scheduled now old)

        once : (p : PairRecord) (b : Bool) → SameConsent p (if b then sent_at begins now old.timing old.controlling id p else p)
        once p true = by-begins begins (λ x. SameConsent p x) now old.timing old.controlling id p
            (record { number = refl; consented = refl; heard = refl }) (record { number = refl; consented = refl; heard = refl })
        once p false = record { number = refl; consented = refl; heard = refl }

    -- ---- the `handle_timeout` call

    pub maintains-consents : (now : ℕ) (old new : AgentRecord H P) (s t : Stream) (emitted : Emitted) → old.lite ≡ false → MaintainsPairs mac now old s emitted new t
        → (new.timing ≡ old.timing) × Leaves old.pairs new.pairs × HaveConsent now new
    maintains-consents now old new s t emitted full (first, second, issued, named, kept, nominating, giving, checking, is) =
        let a = names-thins now (at_timeout now old) named first nominating in
        let b = expires-thins 0 now named kept second giving in
        let named_full : named.lite ≡ false = ap (λ (x : Base). x.lite) a.0 ∙ full in
        let kept_full : kept.lite ≡ false = ap (λ (x : Base). x.lite) b.0 ∙ named_full in
        let c = check-leaves now kept.remote_creds kept new s t issued kept_full checking in
        let timing : new.timing ≡ named.timing = c.0 ∙ ap (λ (x : Base). x.timing) b.0 in (
          timing ∙ ap (λ (x : Base). x.timing) a.0,
          leaves-on old.pairs kept.pairs new.pairs
              (λ q has. (let o = b.1.back q has in let n = a.1.back o.0 o.1 in
              (n.0, n.1, record { number = o.2.number ∙ n.2.number; consented = o.2.consented ∙ n.2.consented; heard = o.2.heard ∙ n.2.heard })))
              c.1,
          λ q has. (let o = c.1 q has in
              consent-same (consent_of new.timing) now o.0 q o.2.consented o.2.heard
              ∙ (ap (λ (z : StunTiming). has_consent (consent_of z) now o.0) timing ∙ expires-consents now named kept second named_full giving o.0 o.1)),
        )

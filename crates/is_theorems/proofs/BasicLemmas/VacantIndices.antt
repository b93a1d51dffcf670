-- An unknown sender that gets a vacant index: the remote candidates of all pairs stay.
use Rattle.is_theorems.proofs.Common.{[], ◌++◌, ◌+◌, ◌<◌, ◌∙◌, ◌∷◌, ◌≡◌, ap, arith, Barred, Bool, candidate_at, CandidateRecord, eq-eqb}
use Rattle.is_theorems.proofs.Common.{false, Full, Has, has_room, is_on, is_temporary, is_vacant, IsPlaceOf, IsRemotePlace, Known, length}
use Rattle.is_theorems.proofs.Common.{length-append, List, list_any, not, Option, PairRecord, refl, RequestRecord, slice_set, subst, suc}
use Rattle.is_theorems.proofs.Common.{sym, true, Unknown, Vacant, zero, ℕ}
use Rattle.is_theorems.proofs.BasicLemmas.EqualAddresses.{both}
use Rattle.is_theorems.proofs.RuleEffects.UnchangedSettings.{either}
use Rattle.is_theorems.proofs.BasicLemmas.UsernamesAndFirstMatches.{any_has}
use Rattle.is_theorems.proofs.BasicLemmas.CandidatesByIndex.{at-append}

-- ---- what is known of a place

-- a known sender is found without regard to the limit
pub known-in : (limit : Option ℕ) (remote : List CandidateRecord) (pairs : List PairRecord) (q : RequestRecord) (r : ℕ)
    → IsPlaceOf limit remote pairs q (Known r) → IsRemotePlace remote q (Known r)
known-in limit remote pairs q r (Known k, is, same) = subst (λ place. IsRemotePlace remote q place) (sym same) is
known-in limit remote pairs q r (Barred, is, same) = absurd (let no : Known r ≡ Barred = same in cc)
known-in limit remote pairs q r (Unknown, is, room) = either (has_room limit remote) room
    (λ _ same. absurd (let no : Known r ≡ Unknown = same in cc))
    (λ _ none. absurd none)
known-in limit remote pairs q r (Vacant k, is, none) = absurd none
known-in limit remote pairs q r (Full, is, none) = absurd none

pub vacant-at : (limit : Option ℕ) (remote : List CandidateRecord) (pairs : List PairRecord) (q : RequestRecord) (r : ℕ)
    → IsPlaceOf limit remote pairs q (Vacant r) → (r < length remote) × (is_vacant remote pairs r ≡ true)
vacant-at limit remote pairs q r (Known k, is, same) = absurd (let no : Vacant r ≡ Known k = same in cc)
vacant-at limit remote pairs q r (Barred, is, same) = absurd (let no : Vacant r ≡ Barred = same in cc)
vacant-at limit remote pairs q r (Unknown, is, room) = either (has_room limit remote) room
    (λ _ same. absurd (let no : Vacant r ≡ Unknown = same in cc))
    (λ _ k. (k.0, k.1))
vacant-at limit remote pairs q r (Vacant k, is, none) = absurd none
vacant-at limit remote pairs q r (Full, is, none) = absurd none

not-true : (b : Bool) → not b ≡ true → b ≡ false
not-true true h = absurd (cc)
not-true false h = refl

-- no pair has the candidate at a vacant index
pub off-vacant : (remote : List CandidateRecord) (pairs : List PairRecord) (r : ℕ) → is_vacant remote pairs r ≡ true → (p : PairRecord) → Has pairs p → p.remote ≡ r → ⊥
off-vacant remote pairs r vacant p has same =
    let none : list_any (is_on r) pairs ≡ false = not-true (list_any (is_on r) pairs) (both (is_temporary (candidate_at remote r)) (not (list_any (is_on r) pairs)) vacant).1 in
    let no : true ≡ false = sym (any_has (is_on r) pairs p has (eq-eqb p.remote r same)) ∙ none in cc

-- ---- one candidate is replaced

pub length-put : (cs : List CandidateRecord) (r : ℕ) (c : CandidateRecord) → length (slice_set cs r c) ≡ length cs
length-put [] r c = refl
length-put (x ∷ xs) zero c = refl
length-put (x ∷ xs) (suc r) c = ap suc (length-put xs r c)

pub put-here : (cs : List CandidateRecord) (r : ℕ) (c : CandidateRecord) → r < length cs → candidate_at (slice_set cs r c) r ≡ c
put-here [] r c lt = absurd (let no : ⊥ = omega (arith, lt) in no)
put-here (x ∷ xs) zero c lt = refl
put-here (x ∷ xs) (suc r) c lt = put-here xs r c (omega (arith, lt))

pub put-elsewhere : (cs : List CandidateRecord) (r k : ℕ) (c : CandidateRecord) → (k ≡ r → ⊥) → candidate_at (slice_set cs r c) k ≡ candidate_at cs k
put-elsewhere [] r k c apart = refl
put-elsewhere (x ∷ xs) zero zero c apart = absurd (apart refl)
put-elsewhere (x ∷ xs) zero (suc k) c apart = refl
put-elsewhere (x ∷ xs) (suc r) zero c apart = refl
put-elsewhere (x ∷ xs) (suc r) (suc k) c apart = put-elsewhere xs r k c (λ e. apart (ap suc e))

-- ---- the remote candidates of pairs

-- each pair's remote candidate stays at its index
abbrev pub KeepsRemote : List PairRecord → List CandidateRecord → List CandidateRecord → Type 0
KeepsRemote pairs old new = (p : PairRecord) → Has pairs p → p.remote < length old → (candidate_at new p.remote ≡ candidate_at old p.remote) × (p.remote < length new)

pub keeps-remote-same : (pairs : List PairRecord) (old new : List CandidateRecord) → new ≡ old → KeepsRemote pairs old new
keeps-remote-same pairs old new e p has lt = (ap (λ cs. candidate_at cs p.remote) e, subst (λ cs. p.remote < length cs) (sym e) lt)

pub keeps-remote-more : (pairs : List PairRecord) (old new : List CandidateRecord) (c : CandidateRecord) → new ≡ old ++ c ∷ [] → KeepsRemote pairs old new
keeps-remote-more pairs old new c e p has lt = (
  ap (λ cs. candidate_at cs p.remote) e ∙ at-append old (c ∷ []) p.remote lt,
  subst (λ cs. p.remote < length cs) (sym e) (let long : length (old ++ c ∷ []) ≡ length old + length (c ∷ []) = length-append old (c ∷ []) in omega (arith, long, lt)),
)

pub keeps-remote-put : (pairs : List PairRecord) (old new : List CandidateRecord) (r : ℕ) (c : CandidateRecord) → is_vacant old pairs r ≡ true → new ≡ slice_set old r c
    → KeepsRemote pairs old new
keeps-remote-put pairs old new r c vacant e p has lt = (
  ap (λ cs. candidate_at cs p.remote) e ∙ put-elsewhere old r p.remote c (off-vacant old pairs r vacant p has),
  subst (λ cs. p.remote < length cs) (sym e) (subst (λ n. p.remote < n) (sym (length-put old r c)) lt),
)

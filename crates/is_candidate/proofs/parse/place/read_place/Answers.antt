use Rattle.is_candidate.proofs.Common.{◌∙◌, ◌≡◌, Bool, inl, inr, MatchBool, refl, subst, sym, true}
use Rattle.is_candidate.proofs.parse.place.read_place.Goals as goal

taken : {P : Type 0} (Q : Type 0) (b : Bool) → b ≡ true → P → MatchBool b P Q
taken {P} Q b e p = let F : Bool → Type 0 = λ v. MatchBool v P Q in subst F (sym e) p

pub returns-in_default-kind_of : goal.returns-in_default-kind_of
returns-in_default-kind_of c =
    rw (c.in-Some.ensures.cases.0, c.in-Some-split_first.ensures.cases.0, c.in-Some-split_first-2.ensures.cases.0, c.in-Some-split_first-3.ensures.cases.0)
    (inl (_, c.in-Ok.ensures.value, inl (_, c.in-Some-small_number.ensures, taken _ _ (sym c.is_typ.ensures ∙ c.if-not-is_typ.false) (inr (c.in_default-kind_of.ensures, refl)))))

pub returns : goal.returns
returns c =
    rw (c.in-Some.ensures.cases.0, c.in-Some-split_first.ensures.cases.0, c.in-Some-split_first-2.ensures.cases.0, c.in-Some-split_first-3.ensures.cases.0)
    (inl (_, c.in-Ok.ensures.value, inl (_, c.in-Some-small_number.ensures, taken _ _ (sym c.is_typ.ensures ∙ c.if-not-is_typ.false) (inl (_, c.in-Some-kind_of.ensures, refl)))))

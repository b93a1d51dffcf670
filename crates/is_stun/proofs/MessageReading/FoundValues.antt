-- One pass for one type: what is left, over what was found so far, is the value.
use Rattle.is_stun.proofs.Common.{[], ◌∙◌, ◌∷◌, ◌≡◌, ap, before_integrity, Bool, cond, eq-eqb, eqb, false, last_value, List, ne_eqb, None}
use Rattle.is_stun.proofs.Common.{Option, option_or, refl, Some, sym, Tlv, true, ℕ}
use Rattle.is_stun.proofs.MessageReading.FirstAttribute.{before_integrity-here, before_integrity-past}

-- the value that is left, or else what was found so far
abbrev pub found_over : ℕ → List Tlv → Option (List ℕ) → Option (List ℕ)
found_over code left so_far = option_or (last_value code (before_integrity left)) so_far

or_step : (o : Option (List ℕ)) (b : Bool) (v : List ℕ) (x : Option (List ℕ)) → option_or (option_or o (cond b (Some v) None)) x ≡ option_or o (cond b (Some v) x)
or_step (Some y) b v x = refl
or_step None true v x = refl
or_step None false v x = refl

-- an attribute before the integrity
next_is : (code : ℕ) (l cs : List Tlv) (c : Tlv) (x : Option (List ℕ)) → l ≡ c ∷ cs → (c.code ≡ 8 → ⊥) → found_over code l x ≡ found_over code cs (cond (eqb c.code code) (Some c.value) x)
unfolding last_value
next_is code l cs c x is other =
    ap (λ (first : List Tlv). option_or (last_value code first) x) (before_integrity-past l cs c is other)
    ∙ or_step (last_value code (before_integrity cs)) (eqb c.code code) c.value x

pub takes : (code : ℕ) (l cs : List Tlv) (c : Tlv) (x whole : Option (List ℕ)) → whole ≡ found_over code l x → l ≡ c ∷ cs → (c.code ≡ 8 → ⊥) → c.code ≡ code → whole ≡ found_over code cs (Some c.value)
takes code l cs c x whole so_far is other own =
    so_far ∙ next_is code l cs c x is other ∙ ap (λ (b : Bool). found_over code cs (cond b (Some c.value) x)) (eq-eqb c.code code own)

pub passes : (code : ℕ) (l cs : List Tlv) (c : Tlv) (x whole : Option (List ℕ)) → whole ≡ found_over code l x → l ≡ c ∷ cs → (c.code ≡ 8 → ⊥) → (c.code ≡ code → ⊥) → whole ≡ found_over code cs x
passes code l cs c x whole so_far is other foreign =
    so_far ∙ next_is code l cs c x is other ∙ ap (λ (b : Bool). found_over code cs (cond b (Some c.value) x)) (ne_eqb c.code code foreign)

-- the integrity
pub stops : (code : ℕ) (l cs : List Tlv) (c : Tlv) (x whole : Option (List ℕ)) → whole ≡ found_over code l x → l ≡ c ∷ cs → c.code ≡ 8 → x ≡ whole
unfolding last_value
stops code l cs c x whole so_far is here =
    sym (so_far ∙ ap (λ (first : List Tlv). option_or (last_value code first) x) (before_integrity-here l cs c is here))

-- the end
pub ends : (code : ℕ) (l : List Tlv) (x whole : Option (List ℕ)) → whole ≡ found_over code l x → l ≡ [] → x ≡ whole
unfolding last_value before_integrity
ends code l x whole so_far is = sym (so_far ∙ ap (λ (left : List Tlv). found_over code left x) is)

use Rattle.serde_json.specs.declared.value.Value.{Value}
use Rattle.is_candidate.proofs.Common.{[], ◌++◌, ◌+◌, ◌<◌, ◌||◌, ◌∙◌, ◌∷◌, ◌≡◌, ap, append_assoc, Bool, Entry, false, get_or, has_float}
use Rattle.is_candidate.proofs.Common.{items_have_float, items_view, length, List, members_have_float, members_view, refl, sym, take}
use Rattle.is_candidate.proofs.Common.{take_more, true, view, ℕ}
use Rattle.is_candidate.proofs.candidate.fraction.+fraction.Goals as goal
use Rattle.is_candidate.proofs.candidate.fraction.+fraction.Goals.{items_hold_fraction-then-holds_fraction}
use Rattle.is_candidate.proofs.candidate.fraction.+fraction.Goals.{items_hold_fraction-else-holds_fraction}

swapped : (a b c : Bool) → (a || (b || c)) ≡ (b || (a || c))
swapped true true c = refl
swapped true false c = refl
swapped false b c = refl

held : (a b : Bool) → a ≡ true → a ≡ (a || b)
held a b e = rw e refl

passed : (a b : Bool) → a ≡ false → b ≡ (a || b)
passed a b e = rw e refl

items-push : (vs : List Value) (v : Value) → items_have_float (items_view (vs ++ v ∷ [])) ≡ (has_float (view v) || items_have_float (items_view vs))
items-push [] v = refl
items-push (x ∷ vs) v = ap (λ b. has_float (view x) || b) (items-push vs v) ∙ swapped (has_float (view x)) (has_float (view v)) _

members-push : (es : List Entry) (e : Entry) → members_have_float (members_view (es ++ e ∷ [])) ≡ (has_float (view e.1) || members_have_float (members_view es))
members-push [] e = refl
members-push (x ∷ es) e = ap (λ b. has_float (view x.1) || b) (members-push es e) ∙ swapped (has_float (view x.1)) (has_float (view e.1)) _

items-more : (vs : List Value) (i : ℕ) (v : Value) (found : Bool) → i < length vs → v ≡ get_or vs i v → found ≡ items_have_float (items_view (take i vs))
    → (has_float (view v) || found) ≡ items_have_float (items_view (take (i + 1) vs))
items-more vs i v found h is e =
    ap (λ b. has_float (view v) || b) e ∙ sym (items-push (take i vs) v)
    ∙ ap (λ w. items_have_float (items_view (take i vs ++ w ∷ []))) is ∙ sym (ap (λ ws. items_have_float (items_view ws)) (take_more vs i v h))

pub items_hold_fraction-loop-item-preserved : goal.items_hold_fraction-loop-item-preserved
items_hold_fraction-loop-item-preserved t c =
    let more = items-more c.deref-item-items.result.now c.loop-item.item-index c.item-item.result c.loop-item.found c.loop-item-test.true c.item-item.is c.loop-item.invariant in
    elim c.if-holds_fraction.branch [
      | items_hold_fraction-then-holds_fraction w ↦
          w.found-is ∙ held c.holds_fraction.result c.loop-item.found w.if-holds_fraction.true ∙ ap (λ b. b || c.loop-item.found) c.holds_fraction.ensures ∙ more
      | items_hold_fraction-else-holds_fraction w ↦
          w.found-is ∙ passed c.holds_fraction.result c.loop-item.found w.if-holds_fraction.false ∙ ap (λ b. b || c.loop-item.found) c.holds_fraction.ensures ∙ more
    ]

pub members_hold_fraction-loop-key-preserved-then-holds_fraction : goal.members_hold_fraction-loop-key-preserved-then-holds_fraction
members_hold_fraction-loop-key-preserved-then-holds_fraction t c =
    let done = c.loop-key.invariant.0 in
    let e : Entry = (c.in-Some._key.now, c.in-Some.member.now) in
    let left = c.next.new.self in (
      done ++ e ∷ [],
      c.loop-key.invariant.1 ∙ ap (λ es. done ++ es) c.in-Some.ensures.steps ∙ sym (append_assoc done (e ∷ []) left),
      held c.holds_fraction.result c.loop-key.found c.if-holds_fraction.true
          ∙ ap (λ b. b || c.loop-key.found) c.holds_fraction.ensures
          ∙ ap (λ b. has_float (view e.1) || b) c.loop-key.invariant.2 ∙ sym (members-push done e),
    )

pub members_hold_fraction-loop-key-preserved : goal.members_hold_fraction-loop-key-preserved
members_hold_fraction-loop-key-preserved t c =
    let done = c.loop-key.invariant.0 in
    let e : Entry = (c.in-Some._key.now, c.in-Some.member.now) in
    let left = c.next.new.self in (
      done ++ e ∷ [],
      c.loop-key.invariant.1 ∙ ap (λ es. done ++ es) c.in-Some.ensures.steps ∙ sym (append_assoc done (e ∷ []) left),
      passed c.holds_fraction.result c.loop-key.found c.if-holds_fraction.false
          ∙ ap (λ b. b || c.loop-key.found) c.holds_fraction.ensures
          ∙ ap (λ b. has_float (view e.1) || b) c.loop-key.invariant.2 ∙ sym (members-push done e),
    )

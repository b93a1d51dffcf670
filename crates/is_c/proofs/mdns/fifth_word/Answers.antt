-- The words that are passed over begin the text, and the next one is returned.
use Rattle.std.proofs.Common.{◌≡◌, ◌<◌, ◌++◌, ℕ, zero, suc, List, length, Option, Some, None, inl, inr, refl, ap, subst}
use Rattle.std.specs.Borrow.{Bor}
use Rattle.std.specs.Option.{option_copied}
use Rattle.std.specs.Str.Iter.{split_whitespace_rest, split_whitespace_steps}
use Rattle.std.specs.declared.str.SplitWhitespace.{SplitWhitespace}
use Rattle.std.specs.Char.{is_whitespace}
use Rattle.std.specs.Str.{NoCharPasses}
use Rattle.is_candidate.specs.Words.{IsGap, EndsWord}
use Rattle.is_c.specs.Mdns.{HasNth}
use Rattle.is_c.proofs.mdns.fifth_word.Goals as goal

-- one word is passed over
over : (s x t : List ℕ) (n : ℕ) (r : Option (List ℕ))
    → (gap : List ℕ) × (s ≡ gap ++ (x ++ t)) × (0 < length x) × IsGap gap × NoCharPasses is_whitespace x × EndsWord t
    → HasNth n t r → HasNth (suc n) s r
over s x t n r a more = inr (x, t, (a.0, a.1, a.3, (a.2, a.4), a.5), more)

none : (n : ℕ) (s : List ℕ) (r : Option (Bor (List ℕ))) → IsGap s → r ≡ None → HasNth n s (option_copied r)
none zero s r gap e = inl (gap, ap option_copied e)
none (suc n) s r gap e = inl (gap, ap option_copied e)

last : (s t : SplitWhitespace) (r : Option (Bor (List ℕ))) → split_whitespace_steps s r t → HasNth 0 (split_whitespace_rest s) (option_copied r)
last s t None a = inl (a.1, refl)
last s t (Some x) a = inr (x.now, split_whitespace_rest t, (a.0, a.1, a.3, (a.2, a.4), a.5), refl)

pub returns-in_err-next : goal.returns-in_err-next
returns-in_err-next c =
    let P : List ℕ → Type 0 = λ s. HasNth 4 s (option_copied c.from_residual.result) in
    subst P c.split_whitespace-words.ensures.rest (none 4 _ _ c.in_err-next.ensures.steps.1 c.from_residual.ensures)

pub returns-in_err-next-2 : goal.returns-in_err-next-2
returns-in_err-next-2 c =
    let P : List ℕ → Type 0 = λ s. HasNth 4 s (option_copied c.from_residual-in_err-next-2.result) in
    subst P c.split_whitespace-words.ensures.rest
    (over _ _ _ 3 _ c.in_ok-next.ensures.steps
    (none 3 _ _ c.in_err-next-2.ensures.steps.1 c.from_residual-in_err-next-2.ensures))

pub returns-in_err-next-3 : goal.returns-in_err-next-3
returns-in_err-next-3 c =
    let P : List ℕ → Type 0 = λ s. HasNth 4 s (option_copied c.from_residual-in_err-next-3.result) in
    subst P c.split_whitespace-words.ensures.rest
    (over _ _ _ 3 _ c.in_ok-next.ensures.steps
    (over _ _ _ 2 _ c.in_ok-next-2.ensures.steps
    (none 2 _ _ c.in_err-next-3.ensures.steps.1 c.from_residual-in_err-next-3.ensures)))

pub returns-in_err-next-4 : goal.returns-in_err-next-4
returns-in_err-next-4 c =
    let P : List ℕ → Type 0 = λ s. HasNth 4 s (option_copied c.from_residual-in_err-next-4.result) in
    subst P c.split_whitespace-words.ensures.rest
    (over _ _ _ 3 _ c.in_ok-next.ensures.steps
    (over _ _ _ 2 _ c.in_ok-next-2.ensures.steps
    (over _ _ _ 1 _ c.in_ok-next-3.ensures.steps
    (none 1 _ _ c.in_err-next-4.ensures.steps.1 c.from_residual-in_err-next-4.ensures))))

pub returns : goal.returns
returns c =
    let P : List ℕ → Type 0 = λ s. HasNth 4 s (option_copied c.next-5.result) in
    subst P c.split_whitespace-words.ensures.rest
    (over _ _ _ 3 _ c.in_ok-next.ensures.steps
    (over _ _ _ 2 _ c.in_ok-next-2.ensures.steps
    (over _ _ _ 1 _ c.in_ok-next-3.ensures.steps
    (over _ _ _ 0 _ c.in_ok-next-4.ensures.steps
    (last _ _ c.next-5.result c.next-5.ensures.steps)))))

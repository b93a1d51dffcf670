-- A walk over a queue from its back has the elements in reverse.
use Rattle.std.proofs.lemmas.Iterator.Consumers.{YieldsList-from_shown}
use Rattle.std.specs.Iterator.Adapters.{rev_source, rev_steps}
use Rattle.std.specs.VecDeque.Iter.{deque_iter_steps_back, deque_iter_rest}
use Rattle.is_pair.proofs.Common.{[], ◌∙◌, ◌∷◌, ◌≡◌, ap, length-reverse, List, reverse, reverse-append, subst, YieldsList}

pub YieldsList-from_rev_deque : {A : Type 0} {s : _} (xs : List A) → deque_iter_rest (rev_source s) ≡ xs → YieldsList (rev_steps (deque_iter_steps_back {X = A})) (λ y. y.now) s (reverse xs)
YieldsList-from_rev_deque {A} {s} xs e =
    subst (λ k. YieldsList (rev_steps (deque_iter_steps_back {X = A})) (λ y. y.now) s (reverse k)) e
    (YieldsList-from_shown (rev_steps deque_iter_steps_back) (λ y. y.now) (λ u. reverse (deque_iter_rest (rev_source u))) (λ u t p. length-reverse _ ∙ p.0)
    (λ u x t p. ap reverse p ∙ reverse-append (deque_iter_rest (rev_source t)) (x.now ∷ [])) s)

use Rattle.is_candidate.proofs.Common.{[], ◌∷◌, HasWords, List, split_whitespace_rest, subst, ℕ}
use Rattle.is_candidate.proofs.AttributeTexts.GrowingTexts.{texts-push, texts-end}
use Rattle.is_candidate.proofs.parse.words.words_of.Goals as goal

pub loop-word-preserved : goal.loop-word-preserved
loop-word-preserved c = λ ws h.
    let P : List (List ℕ) → Type 0 = HasWords c.args.text.now in
    let s = c.in-Some.ensures.steps in
    let all = c.loop-word.invariant (c.in-Some.word.now ∷ ws) (s.0, split_whitespace_rest c.next.new.self, s.1, s.3, (s.2, s.4), s.5, h) in
    rw c.in_ok-push.ensures.items (subst P (texts-push c.loop-word.words.items c.in-Some.word ws) all)

pub returns : goal.returns
returns c =
    let P : List (List ℕ) → Type 0 = HasWords c.args.text.now in
    subst P (texts-end c.loop-word.words.items) (c.loop-word.invariant [] c.in-None.ensures.steps.1)

use Rattle.is_candidate.proofs.Common.{[], ◌++◌, ◌<◌, ◌∙◌, ◌∷◌, ◌≡◌, ap, arith, HasWords, length, length-set, List, nat_tests, subst, sym}
use Rattle.is_candidate.proofs.Common.{take, take_more_set, texts, ℕ}
use Rattle.is_candidate.proofs.AttributeTexts.SpacedWords.{no_word}
use Rattle.is_candidate.proofs.AttributeTexts.GrowingTexts.{texts-push, texts-end}
use Rattle.is_candidate.proofs.parse.words.place_words.Goals as goal

pub loop-rest-preserved : goal.loop-rest-preserved
loop-rest-preserved c =
    let l = c.loop-rest in
    let w = c.in_ok-word.word in
    let within : l.count < length l.room = omega (arith, l.invariant.1, l.invariant.2, c.if-count-eq-MANY_WORDS.false) in
    let P : List (List ℕ) → Type 0 = HasWords c.args.text.now in (
      c.in_ok-word.ensures.1,
      omega (arith, l.invariant.1, c.if-count-eq-MANY_WORDS.false),
      length-set l.room l.count w ∙ l.invariant.2,
      λ ws h.
          let s = c.in_ok-word.ensures.0 in
          let all = l.invariant.3 (w.now ∷ ws) (s.0, c.in_ok-word.after.now, s.1, s.2, s.3, s.4, h) in
          subst P (texts-push (take l.count l.room) w ws ∙ ap (λ xs. texts xs ++ ws) (sym (take_more_set l.room l.count w within))) all,
    )

pub returns : goal.returns
returns c =
    let l = c.loop-rest in
    let P : List (List ℕ) → Type 0 = HasWords c.args.text.now in
    let none : length l.rest.now ≡ 0 = grind (arith, nat_tests, c.is_empty.ensures, c.loop-rest-test.false) in
    (omega (arith, l.invariant.1, l.invariant.2), subst P (texts-end (take l.count l.room)) (l.invariant.3 [] (no_word l.rest.now none)))

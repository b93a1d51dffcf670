use Rattle.std.proofs.lemmas.Str.{IsUtf8-drop}
use Rattle.is_candidate.proofs.Common.{◌<◌, ◌≡◌, ◌≤◌, All, ap, arith, get_or, IsVisible, length, List, rules, subst, take, ℕ}
use Rattle.is_candidate.proofs.AttributeTexts.SpacedWords.{cut_word}
use Rattle.is_candidate.proofs.parse.words.first_word.Goals as goal

pub returns : goal.returns
returns c =
    let rest = c.without_space-text.result.now in
    let n = c.visible_run-end.result in
    let within : n ≤ length rest = omega (arith, c.visible_run-end.ensures.bound, ap length c.as_bytes-bytes.ensures.value) in
    let seen : All IsVisible (take n rest) = subst (λ (l : List ℕ). All IsVisible (take n l)) c.as_bytes-bytes.ensures.value c.visible_run-end.ensures.seen in
    let space : n < length rest → get_or rest n 0 ≡ 32 = search rules in
    let cut = cut_word c.args.text.now rest n c.without_space-text.ensures (omega (arith, c.if-end-eq0.false)) within seen space in
    rw (c.split_at.ensures.front, c.split_at.ensures.back)
    (cut, IsUtf8-drop rest n c.without_space-text.utf8 (within, λ more high. omega (arith, space more, high)))

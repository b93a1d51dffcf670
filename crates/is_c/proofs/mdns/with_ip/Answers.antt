use Rattle.std.proofs.Common.{◌≡◌, ℕ, ◌-◌, ◌==◌, List, [], ◌∷◌, ◌++◌, codes, string_bytes, sym, ap, ◌∙◌, append_assoc, append-nil, if◌then◌else◌}
use Rattle.std.specs.Str.Iter.{split_whitespace_rest}
use Rattle.std.specs.Net.Text.{ip_text}
use Rattle.is_c.specs.Mdns.{spaced, with_nth}
use Rattle.is_c.proofs.mdns.with_ip.Goals as goal

-- a text with one more word, and the words after it
one_more : (before after word more : List ℕ) → after ≡ before ++ codes " " ++ word → after ++ more ≡ before ++ (32 ∷ (word ++ more))
one_more before after word more e =
    ap (λ l. l ++ more) e ∙ append_assoc (before ++ codes " ") word more ∙ append_assoc before (codes " ") (word ++ more)

pub loop-word-preserved : goal.loop-word-preserved
loop-word-preserved c = λ rest h.
    let s = c.in-Some.ensures.steps in
    let all = c.loop-word.invariant (c.in-Some.word.now ∷ rest) (s.0, split_whitespace_rest c.next.new.self, s.1, s.3, (s.2, s.4), s.5, h) in
    let ip = ip_text c.args.ip in
    let word = if c.loop-word.left == 1 then ip else c.in-Some.word.now in
    let left = ap (λ n. string_bytes c.push_word.new.text ++ spaced (with_nth n ip rest)) c.saturating_sub-left.ensures in
    (all.0, all.1, left ∙ one_more (string_bytes c.loop-word.text) (string_bytes c.push_word.new.text) word (spaced (with_nth (c.loop-word.left - 1) ip rest)) c.in_ok-push_word.ensures ∙ all.2)

pub returns : goal.returns
returns c =
    let all = c.loop-word.invariant [] c.in-None.ensures.steps.1 in
    (all.0, all.1, sym (append-nil (string_bytes c.loop-word.text)) ∙ all.2)

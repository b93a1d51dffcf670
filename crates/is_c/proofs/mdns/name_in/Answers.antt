-- The name is the fifth word after the prefix.
use Rattle.std.proofs.Common.{◌++◌, codes, Some, None, inl, inr, refl, sym, ap, ◌∙◌}
use Rattle.std.specs.Option.{option_copied}
use Rattle.is_candidate.specs.Lines.{HasRest}
use Rattle.is_c.proofs.WordLemmas.{both}
use Rattle.is_c.proofs.mdns.name_in.Goals as goal

pub returns-in_err-strip_prefix : goal.returns-in_err-strip_prefix
returns-in_err-strip_prefix c = inl (c.in_err-strip_prefix.ensures.cases, ap option_copied c.from_residual.ensures)

pub returns-in_err-word : goal.returns-in_err-word
returns-in_err-word c =
    let s = c.in_ok-strip_prefix.ensures.cases in
    let rest : HasRest c.args.text.now c.in_ok-strip_prefix.field-0.now = s.1.1 ∙ ap (λ l. codes "candidate:" ++ l) (sym s.2) in
    inr (c.in_ok-strip_prefix.field-0.now, None, rest, c.in_err-word.ensures, ap option_copied c.from_residual-in_err-word.ensures)

pub returns-then-is_local_name : goal.returns-then-is_local_name
returns-then-is_local_name c =
    let s = c.in_ok-strip_prefix.ensures.cases in
    let rest : HasRest c.args.text.now c.in_ok-strip_prefix.field-0.now = s.1.1 ∙ ap (λ l. codes "candidate:" ++ l) (sym s.2) in
    inr (c.in_ok-strip_prefix.field-0.now, Some c.in_ok-word.word.now, rest, c.in_ok-word.ensures, inl (c.is_local_name.ensures.0 c.if-is_local_name.true, refl))

pub returns-else-is_local_name : goal.returns-else-is_local_name
returns-else-is_local_name c =
    let s = c.in_ok-strip_prefix.ensures.cases in
    let rest : HasRest c.args.text.now c.in_ok-strip_prefix.field-0.now = s.1.1 ∙ ap (λ l. codes "candidate:" ++ l) (sym s.2) in
    inr (
      c.in_ok-strip_prefix.field-0.now,
      Some c.in_ok-word.word.now,
      rest,
      c.in_ok-word.ensures,
      inr ((λ is. both c.is_local_name.result (c.is_local_name.ensures.1 is) c.if-is_local_name.false), refl),
    )

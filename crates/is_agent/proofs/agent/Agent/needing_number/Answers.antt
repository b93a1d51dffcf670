use Rattle.std.proofs.Common.{◌∙◌, ap, sym}
use Rattle.std.specs.Option.{option_copied}
use Rattle.is_agent.specs.View.{record_of}
use Rattle.is_rules.proofs.PairLists.LeftPair.{none-needs, one-needs, stays-unmoved, unless-needs}
use Rattle.is_agent.proofs.agent.Agent.needing_number.Goals as goal

pub returns-then-not-may_need_check : goal.returns-then-not-may_need_check
returns-then-not-may_need_check g c = λ now. unless-needs (record_of c.args.self.now) now (λ p. c.may_need_check.ensures.needs p (c.if-not-may_need_check.true))

pub returns-in_default : goal.returns-in_default
returns-in_default g c = λ now. none-needs (record_of c.args.self.now) c.numbers_rise.ensures now (sym c.pair_selected.ensures ∙ ap option_copied c.in_default.is)

pub returns-then-not-needs_check : goal.returns-then-not-needs_check
returns-then-not-needs_check g c = λ now.
    stays-unmoved (record_of c.args.self.now) c.numbers_rise.ensures now c.in-Some.pair.now
    (sym c.pair_selected.ensures ∙ ap option_copied c.in-Some.is) (sym c.needs_check.ensures ∙ c.if-not-needs_check.true)

pub returns : goal.returns
returns g c = λ now.
    rw (c.id.ensures) (one-needs (record_of c.args.self.now) c.numbers_rise.ensures now c.in-Some.pair.now
    (sym c.pair_selected.ensures ∙ ap option_copied c.in-Some.is) (sym c.needs_check.ensures ∙ c.if-not-needs_check.false))

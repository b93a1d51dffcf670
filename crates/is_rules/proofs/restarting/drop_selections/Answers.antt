use Rattle.std.proofs.lemmas.Fn.{filter_same}
use Rattle.is_rules.specs.declared.event.IceAgentEvent.{IceAgentEvent}
use Rattle.is_rules.proofs.Common.{is_selection, not, rules}
use Rattle.is_rules.proofs.restarting.drop_selections.Goals as goal

pub returns-clause-items : goal.returns-clause-items
returns-clause-items c = filter_same _ (λ (e : IceAgentEvent). not (is_selection e)) _ (λ x b f' h. search rules) _ _ c.retain.ensures.filtered

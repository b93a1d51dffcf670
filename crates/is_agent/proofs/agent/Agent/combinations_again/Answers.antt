use Rattle.std.proofs.Common.{length, sym, subst}
use Rattle.is_rules.specs.Forming.{AreIn, local_combinations}
use Rattle.is_rules.proofs.PairLists.CombinationsInLists.{own-in}
use Rattle.is_agent.proofs.AgentParts.PairsInLists.{also}
use Rattle.is_agent.proofs.agent.Agent.combinations_again.Goals as goal

pub returns-clause-within : goal.returns-clause-within
returns-clause-within g c =
    let self = c.args.self.now in let locals = length self.local.items in
    let within : AreIn locals (length self.remote.items) (local_combinations c.candidate_at.result.now c.args.place c.deref-2.result.now) =
    rw (c.deref-2.ensures.value) (own-in c.candidate_at.result.now c.args.place self.remote.items locals c.requires) in
    also c.local_combinations.result (λ all is. subst (AreIn locals (length self.remote.items)) (sym is) within) c.local_combinations.ensures

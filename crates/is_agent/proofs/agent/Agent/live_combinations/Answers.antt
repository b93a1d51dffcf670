use Rattle.std.proofs.Common.{length, sym, subst}
use Rattle.is_rules.specs.Forming.{AreIn, live_combinations}
use Rattle.is_rules.proofs.PairLists.CombinationsInLists.{live-in}
use Rattle.is_agent.proofs.AgentParts.PairsInLists.{also}
use Rattle.is_agent.proofs.agent.Agent.live_combinations.Goals as goal

pub returns-clause-within : goal.returns-clause-within
returns-clause-within g c =
    let self = c.args.self.now in let locals = length self.local.items in let remotes = length self.remote.items in
    let within : AreIn locals remotes (live_combinations c.deref.result.now c.deref-2.result.now) =
    rw (c.deref.ensures.value, c.deref-2.ensures.value) (live-in self.local.items self.remote.items) in
    also c.live_combinations.result (λ all is. subst (AreIn locals remotes) (sym is) within) c.live_combinations.ensures

use Rattle.is_pair.specs.Checklists.{multiset_of}
use Rattle.std.proofs.Common.{◌≡◌, ◌&&◌, ◌∙◌, nat_lt, length}
use Rattle.std.specs.List.{list_any}
use Rattle.is_pair.specs.Pairs.{PairRecord}
use Rattle.is_rules.specs.Questions.{is_viable_at}
use Rattle.is_rules.proofs.PairLists.PairsInLists.{any-there}
use Rattle.is_agent.proofs.AgentParts.PairsInLists.{remotes-in}
use Rattle.is_agent.proofs.agent.Agent.has_viable_remote_candidate.Goals as goal

pub returns : goal.returns
returns g c =
    let self = c.args.self.now in let remote = self.remote.items in let multiset = multiset_of self.pairs in
    let found : c.any.result ≡ list_any (λ (p : PairRecord). nat_lt p.remote (length remote) && is_viable_at remote c.args.address p) multiset =
    rw (c.deref.ensures.value) at c.any.ensures in
    found ∙ any-there (λ (p : PairRecord). nat_lt p.remote (length remote)) (is_viable_at remote c.args.address) multiset (remotes-in self.local.items remote multiset self.placed)

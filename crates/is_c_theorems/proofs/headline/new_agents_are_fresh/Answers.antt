use Rattle.is_c_theorems.proofs.NewAgents.{fresh_new}
use Rattle.is_c_theorems.proofs.headline.new_agents_are_fresh.Goals as goal

pub returns : goal.returns
returns c = fresh_new

use Rattle.is_c_theorems.proofs.FollowedCalls.{are_uses}
use Rattle.is_c_theorems.proofs.headline.followed_are_uses.Goals as goal

pub returns : goal.returns
returns c = are_uses

use Rattle.is_theorems.proofs.CallEffects.PathAndTradeEffects.{trade_theorem}
use Rattle.is_theorems.proofs.roles.lite_agents_keep_their_role.Goals as goal

pub returns : goal.returns
returns g c old new s t call e sound given kept step =
    let by = (trade_theorem _ _ old new s t call e sound given step).keeps (search kept) in search by

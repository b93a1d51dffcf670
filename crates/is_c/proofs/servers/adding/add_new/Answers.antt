use Rattle.std.proofs.Common.{inl, refl}
use Rattle.is_c.proofs.servers.adding.add_new.Goals as goal

-- the client that was made is added
pub returns-in-Ok-add_turn : goal.returns-in-Ok-add_turn
returns-in-Ok-add_turn c = inl (refl, (c.in-Ok.client, c.in-Ok.ensures, c.in-Ok-add_turn.ensures))

use Rattle.is_c.proofs.WriteLemmas.{lifetime_fits, channel_fits, nomination_fits}
use Rattle.is_c.proofs.stun_fill.with_numbers.Goals as goal

pub number32-requires-2 : goal.number32-requires-2
number32-requires-2 c = lifetime_fits c.args.message.now c.requires

pub number16-requires : goal.number16-requires
number16-requires c = channel_fits c.args.message.now c.requires

pub number32-requires-3 : goal.number32-requires-3
number32-requires-3 c = nomination_fits c.args.message.now c.requires

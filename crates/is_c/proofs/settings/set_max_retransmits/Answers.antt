use Rattle.std.proofs.Common.{rules}
use Rattle.is_agent.specs.View.{record_of}
use Rattle.is_c.specs.Slots.{held_record}
use Rattle.is_c_calls.specs.Held.{HeldRecord}
use Rattle.is_c.proofs.settings.set_max_retransmits.Goals as goal

pub returns : goal.returns
returns c =
    let before = held_record c.args.held.now in
    let mid : HeldRecord = record before { agent = record_of c.set_max_stun_retransmits.new.self } in
    (mid, search (rules, c.set_max_stun_retransmits.ensures, c.followed.ensures.code, c.if-limit-eq0.false), search (rules, c.followed.ensures.fixed, c.followed.ensures.code))

use Rattle.std.proofs.Common.{◌≡◌, Bool, true, false, not, refl}
use Rattle.is_agent.specs.View.{record_of}
use Rattle.is_rules.proofs.PairLists.LeftPair.{same-unneeded}
use Rattle.is_agent.proofs.agent.Agent.may_need_check.Goals as goal

on-if : (b : Bool) → not b ≡ false → b ≡ true
on-if true h = refl
on-if false h = absurd (cc)

pub returns-else-self-clause-needs : goal.returns-else-self-clause-needs
returns-else-self-clause-needs g c = λ p off.
    same-unneeded (record_of c.args.self.now) (c.is_same_number.ensures (on-if c.is_same_number.result off)) c.if-self.false p

use Rattle.is_stun.proofs.Common.{◌-◌, ap, arith, drop, length, List, take, take_rest, ℕ}
use Rattle.is_stun.proofs.MessageReading.AttributeSequence.{tlvs_short, next_tlv}
use Rattle.is_stun.proofs.tlv.TlvsIterator.next.Goals as goal

pub returns-in_default-clause-steps : goal.returns-in_default-clause-steps
returns-in_default-clause-steps c = let none = tlvs_short c.args.self.now.place c.args.self.now.rest.now (omega arith) in (none, none)

pub returns-clause-steps : goal.returns-clause-steps
returns-clause-steps c =
    let bytes = c.args.self.now.rest.now in
    let rest : List ℕ = take (length bytes - 4) (drop 4 bytes) in
    next_tlv c.args.self.now.place c.from_be_bytes-code.result c.from_be_bytes-len.result c.min.result c.min-following.result bytes
    rest (take (length rest - c.min-following.result) (drop c.min-following.result rest)) (omega arith) (take_rest bytes 4) (take_rest rest c.min-following.result)
    c.from_be_bytes-code.ensures c.from_be_bytes-len.ensures c.min.ensures c.min-following.ensures

pub returns-clause-goes : goal.returns-clause-goes
returns-clause-goes c =
    let fewer = ap length (returns-clause-steps c) in
    record { on = λ _. (tt, tt, omega (arith, fewer)); keeps = tt; rests = λ _. tt }

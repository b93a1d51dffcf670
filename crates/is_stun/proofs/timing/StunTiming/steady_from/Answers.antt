use Rattle.is_stun.proofs.Common.{◌+◌, ◌-◌, ◌^◌, ◌≡◌, ap, arith, leading_length}
use Rattle.is_stun.proofs.timing.StunTiming.steady_from.Goals as goal
use lib.Count.{count_leading_zeros}

pub returns-clause-steady : goal.returns-clause-steady
returns-clause-steady c =
    let millis = c.as_millis.result in
    let length = leading_length 64 millis (omega arith) in
    let bits : 64 - count_leading_zeros 64 millis + 1 - 1 ≡ length.0 = omega (arith, length.1) in
    let power = ap (λ n. 2 ^ n) bits in
    omega (arith, power, length.2, c.as_millis.ensures.whole)

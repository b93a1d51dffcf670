use Rattle.is_stun.proofs.Common.{◌+◌, ◌-◌, ◌≡◌, ap, arith, range_with_len, resend_delay, sum_by}
use Rattle.is_stun.proofs.BitsOfNumbers.RetransmissionDelays.{timeout_by_parts, sum_by-range_more}
use Rattle.is_stun.proofs.timing.StunTiming.timeout.Goals as goal

pub loop-count-preserved : goal.loop-count-preserved
loop-count-preserved c =
    let t = c.args.self.now in
    let count = c.loop-count.count in
    let next : count + 1 - 2 ≡ count - 2 + 1 = omega arith in
    let place : 2 + (count - 2) ≡ count = omega arith in
    let more = sum_by-range_more (resend_delay t) 2 (count - 2) in
    let delay = ap (resend_delay t) place in
    let sums = ap (λ n. sum_by (resend_delay t) (range_with_len 2 n)) next in
    (omega arith, omega arith)

pub returns : goal.returns
returns c =
    let t = c.args.self.now in
    let growing = c.min-growing.result in
    let counted : c.loop-count.count - 2 ≡ growing - 1 = omega arith in
    let sums = ap (λ n. sum_by (resend_delay t) (range_with_len 2 n)) counted in
    let parts = timeout_by_parts t growing c.steady_from.result c.steady_from.ensures.some c.steady_from.ensures.steady c.min-growing.ensures in
    cc

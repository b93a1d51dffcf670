use Rattle.is_stun.proofs.Common.{◌*◌, ◌^◌, ◌≡◌, arith, resend_delay}
use Rattle.is_stun.proofs.BitsOfNumbers.RetransmissionDelays.{millis_fit, resend_delay-pos, resend_delay-bounded, resend_delay-rising}
use Rattle.is_stun.proofs.timing.StunTiming.stun_resend_delay.Goals as goal

pub returns : goal.returns
returns c =
    let t = c.args.self.now in
    let fit = millis_fit (c.as_millis-first.result * 2 ^ c.min-doublings.result) c.as_millis-greatest.result c.as_millis-greatest.ensures.fits in
    let pos = resend_delay-pos t c.args.send_count (omega arith) in
    let exact : c.from_millis.result.0 ≡ resend_delay t c.args.send_count =
    cc (c.as_millis-first.ensures.whole, c.as_millis-greatest.ensures.whole) in
    let bounded = resend_delay-bounded t c.args.send_count in
    record {
      delay = exact;
      bounded = omega arith;
      rising = λ fewer less. let below = resend_delay-rising t fewer c.args.send_count less in omega arith;
    }

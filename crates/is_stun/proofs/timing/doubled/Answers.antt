use Rattle.is_stun.proofs.Common.{◌%◌, ◌*◌, ◌^◌, ◌≡◌, arith, rules, shl_whole}
use Rattle.is_stun.proofs.BitsOfNumbers.RetransmissionDelays.{min-doubled}
use Rattle.is_stun.proofs.timing.doubled.Goals as goal

pub returns : goal.returns
returns c =
    let times = c.args.times in
    let whole : (c.args.number * 2 ^ c.min.result) % 2 ^ 128 ≡ c.args.number * 2 ^ c.min.result =
    shl_whole c.args.number 64 c.min.result 128 (omega arith) (omega arith) in
    let doubled = min-doubled c.args.number times 64 c.args.greatest (omega arith) in
    search (whole, doubled, rules)

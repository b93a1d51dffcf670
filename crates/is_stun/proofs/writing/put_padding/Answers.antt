use Rattle.is_stun.proofs.Common.{◌-◌, ◌≡◌, arith, padded_len, sym, take-replicate, ℕ}
use Rattle.is_stun.proofs.WrittenMessages.ConsecutiveTexts.{Puts-nothing}
use Rattle.is_stun.proofs.writing.put_padding.Goals as goal

pub returns-then-len-eq0 : goal.returns-then-len-eq0
returns-then-len-eq0 c =
    let none : padded_len c.args.len - c.args.len ≡ 0 = omega (arith, c.if-len-eq0.true) in
    rw none (Puts-nothing c.args.buf.now c.args.at (omega (arith, c.requires.room)))

pub returns : goal.returns
returns c = rw (sym (take-replicate {X = ℕ} (padded_len c.args.len - c.args.len) 3 0 (omega arith))) c.put.ensures

use Rattle.is_stun.proofs.Common.{◌+◌, ◌-◌, ◌≡◌, arith, drop-drop, length, refl, splice}
use Rattle.is_stun.proofs.writing.put.Goals as goal

pub returns : goal.returns
unfolding splice
returns c =
    let at = c.args.at in
    let bytes = c.args.bytes.now in
    let len : at + length bytes - at ≡ length bytes = omega arith in
    record {
      bytes = rw (len, drop-drop, c.copy_from_slice.ensures.after) refl;
      ends = refl;
      fits = omega arith;
    }

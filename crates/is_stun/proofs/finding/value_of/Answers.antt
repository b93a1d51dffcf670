use Rattle.is_stun.proofs.Common.{ap, arith, before_integrity, drop_all, last_value, List, sym, tlvs_after, tlvs_of, ℕ}
use Rattle.is_stun.proofs.finding.value_of.Goals as goal

-- a message that ends in its header has no attributes
pub returns-then-bytes-lt-HEADER_LEN : goal.returns-then-bytes-lt-HEADER_LEN
unfolding last_value before_integrity tlvs_after
returns-then-bytes-lt-HEADER_LEN c =
    sym (ap (λ (body : List ℕ). last_value c.args.code (before_integrity (tlvs_of body))) (drop_all 20 c.args.bytes.now (omega (arith, c.if-bytes-lt-HEADER_LEN.true))))

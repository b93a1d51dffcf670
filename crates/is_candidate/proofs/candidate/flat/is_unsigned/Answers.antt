use Rattle.is_candidate.proofs.Common.{◌<◌, ◌^◌, ◌∙◌, ap, digits_of, IsInteger, IsTrue, number_of, scan, subst, sym}
use Rattle.is_candidate.proofs.CandidateJson.WholeNumbers.{where_some, unsigned_number}
use Rattle.is_candidate.proofs.candidate.flat.is_unsigned.Goals as goal

pub returns : goal.returns
returns c = λ some.
    let s = c.as_bytes-bytes.result.now in
    let whole = where_some c.to_u64.result _ c.to_u64.ensures (subst IsTrue c.is_some.ensures some) in
    let read : IsInteger (scan s) × (digits_of (scan s) < 2 ^ 64) = subst (λ p. IsInteger p × (digits_of p < 2 ^ 64)) c.scan.ensures.parts whole in
    let is = unsigned_number s c.if-bytes-eq45.false read.0 read.1 in
    (digits_of (scan s), ap number_of (sym c.as_bytes-bytes.ensures.value) ∙ is)

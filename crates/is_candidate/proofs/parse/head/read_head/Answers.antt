use Rattle.std.proofs.Common.{refl, inl, inr}
use Rattle.is_candidate.proofs.parse.head.read_head.Goals as goal

pub returns-in_default-number : goal.returns-in_default-number
returns-in_default-number c =
    rw (c.in-Some.ensures.cases.0, c.in-Some-split_first.ensures.cases.0, c.in-Some-split_first-2.ensures.cases.0, c.in-Some-split_first-3.ensures.cases.0)
    (inl (_, c.in-Some-small_number.ensures, inl (_, c.in-Some-from_text.ensures, inr (c.in_default-number.ensures, refl))))

pub returns : goal.returns
returns c =
    rw (c.in-Some.ensures.cases.0, c.in-Some-split_first.ensures.cases.0, c.in-Some-split_first-2.ensures.cases.0, c.in-Some-split_first-3.ensures.cases.0)
    (inl (_, c.in-Some-small_number.ensures, inl (_, c.in-Some-from_text.ensures, inl (_, c.in-Some-number.ensures, refl))))

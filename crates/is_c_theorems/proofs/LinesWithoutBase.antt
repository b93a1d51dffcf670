-- A candidate that is read from a candidate attribute has no base: so it is its own base.
use Rattle.is_candidate.specs.Lines.{line_candidate, ReadsWords}
use Rattle.is_c_theorems.proofs.Common.{◌≡◌, CandidateRecord, codes, Err, inl, inr, IsBased, List, Ok, ReadsBytes, refl, Result, Some}
use Rattle.is_c_theorems.proofs.Common.{subst, ℕ}

abbrev Read : Type 0
Read = Result CandidateRecord (List ℕ)

abbrev is_read : CandidateRecord → Read
is_read c = Ok c

not_read : {Z : Type 0} (c : CandidateRecord) (message : List ℕ) → is_read c ≡ Err message → Z
not_read c message wrong_ = let wrong : is_read c ≡ Err message = wrong_ in absurd (cc)

read_same : (c made : CandidateRecord) → is_read made ≡ is_read c → c ≡ made
read_same c made is = cc

based_words : (words : List (List ℕ)) (made : CandidateRecord) → ReadsWords words (Ok made) → IsBased made
based_words words made (Ok h, head, (Ok p, place, (Ok k, keys, is))) =
    subst (λ (c : CandidateRecord). IsBased c) (read_same (line_candidate h p k) made is) (λ _. refl)
based_words words made (Ok h, head, (Ok p, place, (Err m, keys, wrong_))) = not_read made m wrong_
based_words words made (Ok h, head, (Err m, place, wrong_)) = not_read made m wrong_
based_words words made (Err m, head, wrong_) = not_read made m wrong_

pub based_line : (line : List ℕ) (made : CandidateRecord) → ReadsBytes line (Some (Ok made)) → IsBased made
based_line line made (inl (none, wrong_)) = not_read made (codes "missing 'candidate:' prefix") wrong_
based_line line made (inr (rest, words, prefix, split, reads)) = based_words words made reads

-- The text of candidate JSON, token by token.
use Rattle.json.specs.Print.{print, print_from, escape_byte}
use Rattle.is_candidate.specs.Infos.{text_or_null}
use Rattle.is_candidate.specs.InfoTexts.{info_tokens}
use Rattle.is_candidate.proofs.Common.{[], ◌++◌, ◌∷◌, ◌≡◌, append_assoc, codes, compact_text, Err, List, member, no_members, None, null}
use Rattle.is_candidate.proofs.Common.{number, object, Ok, OnOk, Option, refl, Result, Some, string, unsigned, ℕ}

pub on_ok : {A E : Type 0} (r : Result A E) (P Q : Type 0) → (P → Q) → OnOk r P → OnOk r Q
on_ok (Ok x) P Q f h = f h
on_ok (Err e) P Q f h = tt

-- ten tokens that are appended one by one
pub ten_more : {A : Type 0} (x : List A) {x0 x1 x2 x3 x4 x5 x6 x7 x8 x9 : List A} (t0 t1 t2 t3 t4 t5 t6 t7 t8 t9 : A)
    → x0 ≡ x ++ t0 ∷ [] → x1 ≡ x0 ++ t1 ∷ [] → x2 ≡ x1 ++ t2 ∷ [] → x3 ≡ x2 ++ t3 ∷ [] → x4 ≡ x3 ++ t4 ∷ []
    → x5 ≡ x4 ++ t5 ∷ [] → x6 ≡ x5 ++ t6 ∷ [] → x7 ≡ x6 ++ t7 ∷ [] → x8 ≡ x7 ++ t8 ∷ [] → x9 ≡ x8 ++ t9 ∷ []
    → x9 ≡ x ++ t0 ∷ t1 ∷ t2 ∷ t3 ∷ t4 ∷ t5 ∷ t6 ∷ t7 ∷ t8 ∷ t9 ∷ []
ten_more x t0 t1 t2 t3 t4 t5 t6 t7 t8 t9 e0 e1 e2 e3 e4 e5 e6 e7 e8 e9 = rw (e9, e8, e7, e6, e5, e4, e3, e2, e1, e0) (simp append_assoc)

pub printed_info : (line : List ℕ) (ufrag : Option (List ℕ))
    → print (info_tokens line ufrag) ≡ compact_text (object (member (codes "candidate") (string line)
    (member (codes "sdpMLineIndex") (number (unsigned 0)) (member (codes "sdpMid") null (member (codes "usernameFragment") (text_or_null ufrag) no_members)))))
unfolding print_from escape_byte
printed_info line (Some text) = refl
printed_info line None = refl

-- How long a STUN client's request is.
use Rattle.std.proofs.Common.{◌≡◌, ℕ, ◌+◌, Bool, true, false, cond, ltb, List, [], ◌++◌, length, drop, Some, None, Ok, Err, refl, sym, ap, subst, ◌∙◌, arith, length-append}
use Rattle.is_proto.specs.declared.error.StunError.{StunError}
use Rattle.is_proto.specs.declared.error.StunError.TheVariants.{BufferTooShort}
use Rattle.is_stun.specs.Header.{header}
use Rattle.is_stun.specs.Message.{Message}
use Rattle.is_stun.specs.Writing.{attribute, rows_text, front_of, sealed_of, written_rows, value_rejection, rejection, written, fingerprint_text, WritesOr}
use Rattle.is_c_calls.specs.Codes.{OK, BUFFER_TOO_SHORT}
use Rattle.is_c.specs.StunClient.{binding_query}
use Rattle.is_c_calls.specs.Texts.{with_front, Puts}

fingerprint_len : (bytes : List ℕ) → length (fingerprint_text bytes) ≡ 8
unfolding attribute
fingerprint_len bytes = refl

header_len : (typ len : ℕ) (id : List ℕ) → length (header typ len id) ≡ 8 + length id
unfolding header
header_len typ len id = omega arith

pub query_len : (mac : List ℕ → List ℕ → List ℕ) (id : List ℕ) → length id ≡ 12 → length (written mac None (binding_query id)) ≡ 28
unfolding written written_rows sealed_of front_of rows_text
query_len mac id e =
    let front = header 1 8 id ++ [] in
    omega (arith, length-append (front ++ []) (fingerprint_text (front ++ [])), length-append front [], length-append (header 1 8 id) [], header_len 1 8 id, fingerprint_len (front ++ []), e)

query_rejection : (room : ℕ) (id : List ℕ) → rejection None room (binding_query id) ≡ cond (ltb room 28) (Some BufferTooShort) None
unfolding rejection value_rejection rows_text
query_rejection room id = refl

fits : (room : ℕ) → cond (ltb room 28) (Some BufferTooShort) None ≡ None → ltb room 28 ≡ false
fits room e = by (ltb room 28) e
  where
    by : (b : Bool) → cond b (Some BufferTooShort) None ≡ None → b ≡ false
    by true e = absurd (cc)
    by false e = refl

short : (room : ℕ) (why : StunError) → cond (ltb room 28) (Some BufferTooShort) None ≡ Some why → ltb room 28 ≡ true
short room why e = by (ltb room 28) e
  where
    by : (b : Bool) → cond b (Some BufferTooShort) None ≡ Some why → b ≡ true
    by true e = refl
    by false e = absurd (cc)

-- what the writer does with a request is what the call does
pub query_written : (mac : List ℕ → List ℕ → List ℕ) (id old new : List ℕ) (m : Message) (n : ℕ) → length id ≡ 12 → m ≡ binding_query id
    → WritesOr (Ok n) old new (rejection None (length old) m) (written mac None m) → Puts (written mac None (binding_query id)) old OK new 28
query_written mac id old new m n len is writes =
    let v = subst (λ (x : Message). WritesOr (Ok n) old new (rejection None (length old) x) (written mac None x)) is writes in
    let room : ltb (length old) (length (written mac None (binding_query id))) ≡ false =
    ap (ltb (length old)) (query_len mac id len) ∙ fits (length old) (sym (query_rejection (length old) id) ∙ v.0) in
    let front : new ≡ with_front (written mac None (binding_query id)) old = v.2 ∙ ap (λ (k : ℕ). written mac None (binding_query id) ++ drop k old) v.1 in
    (sym (query_len mac id len), rw room (refl, front))

pub query_unwritten : (mac : List ℕ → List ℕ → List ℕ) (id old new : List ℕ) (m : Message) (why : StunError) → length id ≡ 12 → m ≡ binding_query id
    → WritesOr (Err why) old new (rejection None (length old) m) (written mac None m) → Puts (written mac None (binding_query id)) old BUFFER_TOO_SHORT new 28
query_unwritten mac id old new m why len is writes =
    let v = subst (λ (x : Message). WritesOr (Err why) old new (rejection None (length old) x) (written mac None x)) is writes in
    let room : ltb (length old) (length (written mac None (binding_query id))) ≡ true =
    ap (ltb (length old)) (query_len mac id len) ∙ short (length old) why (sym (query_rejection (length old) id) ∙ v.0) in
    (sym (query_len mac id len), rw room (refl, v.1))

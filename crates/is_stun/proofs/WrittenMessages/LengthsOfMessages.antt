-- How long replies and checks are.
use Rattle.is_proto.specs.declared.error.StunError.TheVariants.{BufferTooShort}
use Rattle.is_stun.specs.Checks.{binding_request, binding_reply, binding_role_conflict_reply, with_nomination}
use Rattle.is_stun.proofs.Common.{[], ◌++◌, ◌+◌, ◌∙◌, ◌≡◌, ◌≤◌, ap, arith, attribute, Bool, check_len, CheckTakes, cond, false, FitsInto}
use Rattle.is_stun.proofs.Common.{ICE_CONTROLLED, ICE_CONTROLLING, le-ltb, length, length-append, List, LONGEST_CHECK}
use Rattle.is_stun.proofs.Common.{LONGEST_NUMBERED_CHECK, LONGEST_REPLY, lt-ltb, ltb, Message, NOMINATION, None, Option, option_or}
use Rattle.is_stun.proofs.Common.{padded_len, PRIORITY, refl, rejection, reply_len, Row, rows_of, rows_rejection, rows_text, SocketAddr}
use Rattle.is_stun.proofs.Common.{Some, StunError, subst, TakesBytes, to_be_bytes, true, USE_CANDIDATE, USERNAME, V4, V6, value_rejection}
use Rattle.is_stun.proofs.Common.{w32, w64, WRITTEN_USERNAME_LIMIT, xor_address, ℕ}
use Rattle.is_stun.proofs.WrittenMessages.ConsecutiveRows.{attribute_length}

-- rows of n bytes want n + 52 bytes of room: header, integrity and fingerprint
rows_want : (key : List ℕ) (rows : List Row) (n room : ℕ) → length (rows_text rows) ≡ n → n + 32 ≤ 65535
    → rows_rejection (Some key) room rows ≡ cond (ltb room (n + 52)) (Some BufferTooShort) None
rows_want key rows n room len small =
    let short : ltb 65535 (length (rows_text rows) + 24 + 8) ≡ false = le-ltb 65535 (length (rows_text rows) + 24 + 8) (omega (arith, len, small)) in
    let whole : 20 + (length (rows_text rows) + 24 + 8) ≡ n + 52 = omega (arith, len) in
    rw (short, whole) refl

takes_by : (key : List ℕ) (m : Message) (n : ℕ) → value_rejection m ≡ None → length (rows_text (rows_of m.id m.attributes)) ≡ n → n + 32 ≤ 65535 → TakesBytes key (n + 52) m
unfolding rejection
takes_by key m n fine len small =
    let needs : (room : ℕ) → rejection (Some key) room m ≡ cond (ltb room (n + 52)) (Some BufferTooShort) None =
    λ room. ap (λ (o : Option StunError). option_or o (rows_rejection (Some key) room (rows_of m.id m.attributes))) fine ∙ rows_want key (rows_of m.id m.attributes) n room len small in
    record {
      fits = λ room fits. needs room ∙ ap (λ (b : Bool). cond b (Some BufferTooShort) None) (le-ltb room (n + 52) fits);
      tight = λ room short. needs room ∙ ap (λ (b : Bool). cond b (Some BufferTooShort) None) (lt-ltb room (n + 52) short);
    }

as_takes : {key : List ℕ} {m : Message} {len : ℕ} (n : ℕ) → n + 52 ≡ len → TakesBytes key (n + 52) m → TakesBytes key len m
as_takes {key} {m} n e takes = subst (λ (k : ℕ). TakesBytes key k m) e takes

-- ---- replies

pub reply_takes : (key id : List ℕ) (a : SocketAddr) → TakesBytes key (reply_len a) (binding_reply id a)
unfolding value_rejection rows_text attribute xor_address
reply_takes key id (V4 a) = takes_by key (binding_reply id (V4 a)) 12 refl refl (omega arith)
reply_takes key id (V6 a) = takes_by key (binding_reply id (V6 a)) 24 refl refl (omega arith)

pub reply_fits : (key id : List ℕ) (a : SocketAddr) → FitsInto key LONGEST_REPLY (binding_reply id a)
reply_fits key id (V4 a) room fits = (reply_takes key id (V4 a)).fits room (omega (arith, fits))
reply_fits key id (V6 a) room fits = (reply_takes key id (V6 a)).fits room fits

pub conflict_takes : (key id : List ℕ) → TakesBytes key LONGEST_REPLY (binding_role_conflict_reply id)
unfolding value_rejection rows_text attribute
conflict_takes key id = takes_by key (binding_role_conflict_reply id) 24 refl refl (omega arith)

-- ---- checks

joined_length : (a b c d : List ℕ) → length (a ++ (b ++ (c ++ (d ++ [])))) ≡ length a + (length b + (length c + length d))
joined_length a b c d =
    omega (arith, length-append a (b ++ (c ++ (d ++ []))), length-append b (c ++ (d ++ [])), length-append c (d ++ []), length-append d [])

-- a USERNAME, a role, a priority and a flag, or no flag
with_flag : (name : List ℕ) (code tie prio : ℕ)
    → length (attribute USERNAME name ++ (attribute code (to_be_bytes w64 tie) ++ (attribute PRIORITY (to_be_bytes w32 prio) ++ (attribute USE_CANDIDATE [] ++ [])))) ≡ 28 + padded_len (length name)
with_flag name code tie prio =
    omega (
      arith,
      joined_length (attribute USERNAME name) (attribute code (to_be_bytes w64 tie)) (attribute PRIORITY (to_be_bytes w32 prio)) (attribute USE_CANDIDATE []),
      attribute_length USERNAME name,
      attribute_length code (to_be_bytes w64 tie),
      attribute_length PRIORITY (to_be_bytes w32 prio),
      attribute_length USE_CANDIDATE [],
    )

without_flag : (name : List ℕ) (code tie prio : ℕ)
    → length (attribute USERNAME name ++ (attribute code (to_be_bytes w64 tie) ++ (attribute PRIORITY (to_be_bytes w32 prio) ++ []))) ≡ 24 + padded_len (length name)
without_flag name code tie prio =
    omega (
      arith,
      joined_length (attribute USERNAME name) (attribute code (to_be_bytes w64 tie)) (attribute PRIORITY (to_be_bytes w32 prio)) [],
      attribute_length USERNAME name,
      attribute_length code (to_be_bytes w64 tie),
      attribute_length PRIORITY (to_be_bytes w32 prio),
    )

value_fits : (id name : List ℕ) (controlling : Bool) (tie prio : ℕ) (nominates : Bool) → length name ≤ WRITTEN_USERNAME_LIMIT → value_rejection (binding_request name id controlling tie prio nominates) ≡ None
unfolding value_rejection
value_fits id name controlling tie prio nominates short = rw (le-ltb WRITTEN_USERNAME_LIMIT (length name) short) refl

pub check_takes : (key id name : List ℕ) (controlling : Bool) (tie prio : ℕ) (nominates : Bool) → CheckTakes key id name controlling tie prio nominates
unfolding rows_text
check_takes key id name true tie prio true short =
    as_takes (28 + padded_len (length name)) (omega arith) (takes_by key _ (28 + padded_len (length name)) (value_fits id name true tie prio true short) (with_flag name ICE_CONTROLLING tie prio) (omega (arith, short)))
check_takes key id name true tie prio false short =
    as_takes (24 + padded_len (length name)) (omega arith) (takes_by key _ (24 + padded_len (length name)) (value_fits id name true tie prio false short) (without_flag name ICE_CONTROLLING tie prio) (omega (arith, short)))
check_takes key id name false tie prio true short =
    as_takes (28 + padded_len (length name)) (omega arith) (takes_by key _ (28 + padded_len (length name)) (value_fits id name false tie prio true short) (with_flag name ICE_CONTROLLED tie prio) (omega (arith, short)))
check_takes key id name false tie prio false short =
    as_takes (24 + padded_len (length name)) (omega arith) (takes_by key _ (24 + padded_len (length name)) (value_fits id name false tie prio false short) (without_flag name ICE_CONTROLLED tie prio) (omega (arith, short)))

pub check_fits : (key id name : List ℕ) (controlling : Bool) (tie prio : ℕ) (nominates : Bool) → length name ≤ WRITTEN_USERNAME_LIMIT
    → FitsInto key LONGEST_CHECK (binding_request name id controlling tie prio nominates)
check_fits key id name controlling tie prio nominates short room fits =
    (check_takes key id name controlling tie prio nominates short).fits room (within nominates)
  where
    within : (b : Bool) → check_len name b ≤ room
    within true = omega (arith, short, fits)
    within false = omega (arith, short, fits)

-- ---- checks with NOMINATION

joined_length-5 : (a b c d e : List ℕ) → length (a ++ (b ++ (c ++ (d ++ (e ++ []))))) ≡ length a + (length b + (length c + (length d + length e)))
joined_length-5 a b c d e = omega (arith, length-append a (b ++ (c ++ (d ++ (e ++ [])))), joined_length b c d e)

with_flag_and_number : (name : List ℕ) (code tie prio n : ℕ)
    → length (attribute USERNAME name ++ (attribute code (to_be_bytes w64 tie) ++ (attribute PRIORITY (to_be_bytes w32 prio) ++ (attribute USE_CANDIDATE [] ++ (attribute NOMINATION (to_be_bytes w32 n) ++ [])))))
    ≡ 36 + padded_len (length name)
with_flag_and_number name code tie prio n =
    omega (
      arith,
      joined_length-5 (attribute USERNAME name) (attribute code (to_be_bytes w64 tie)) (attribute PRIORITY (to_be_bytes w32 prio)) (attribute USE_CANDIDATE []) (attribute NOMINATION (to_be_bytes w32 n)),
      attribute_length USERNAME name,
      attribute_length code (to_be_bytes w64 tie),
      attribute_length PRIORITY (to_be_bytes w32 prio),
      attribute_length USE_CANDIDATE [],
      attribute_length NOMINATION (to_be_bytes w32 n),
    )

with_number : (name : List ℕ) (code tie prio n : ℕ)
    → length (attribute USERNAME name ++ (attribute code (to_be_bytes w64 tie) ++ (attribute PRIORITY (to_be_bytes w32 prio) ++ (attribute NOMINATION (to_be_bytes w32 n) ++ [])))) ≡ 32 + padded_len (length name)
with_number name code tie prio n =
    omega (
      arith,
      joined_length (attribute USERNAME name) (attribute code (to_be_bytes w64 tie)) (attribute PRIORITY (to_be_bytes w32 prio)) (attribute NOMINATION (to_be_bytes w32 n)),
      attribute_length USERNAME name,
      attribute_length code (to_be_bytes w64 tie),
      attribute_length PRIORITY (to_be_bytes w32 prio),
      attribute_length NOMINATION (to_be_bytes w32 n),
    )

numbered_value_fits : (id name : List ℕ) (controlling : Bool) (tie prio : ℕ) (nominates : Bool) (n : ℕ) → length name ≤ WRITTEN_USERNAME_LIMIT
    → value_rejection (with_nomination (Some n) (binding_request name id controlling tie prio nominates)) ≡ None
unfolding value_rejection
numbered_value_fits id name controlling tie prio nominates n short = rw (le-ltb WRITTEN_USERNAME_LIMIT (length name) short) refl

numbered_takes : (key id name : List ℕ) (controlling : Bool) (tie prio : ℕ) (nominates : Bool) (n : ℕ) → length name ≤ WRITTEN_USERNAME_LIMIT
    → TakesBytes key (check_len name nominates + 8) (with_nomination (Some n) (binding_request name id controlling tie prio nominates))
unfolding rows_text
numbered_takes key id name true tie prio true n short =
    as_takes (36 + padded_len (length name)) (omega arith) (takes_by key _ (36 + padded_len (length name)) (numbered_value_fits id name true tie prio true n short) (with_flag_and_number name ICE_CONTROLLING tie prio n) (omega (arith, short)))
numbered_takes key id name true tie prio false n short =
    as_takes (32 + padded_len (length name)) (omega arith) (takes_by key _ (32 + padded_len (length name)) (numbered_value_fits id name true tie prio false n short) (with_number name ICE_CONTROLLING tie prio n) (omega (arith, short)))
numbered_takes key id name false tie prio true n short =
    as_takes (36 + padded_len (length name)) (omega arith) (takes_by key _ (36 + padded_len (length name)) (numbered_value_fits id name false tie prio true n short) (with_flag_and_number name ICE_CONTROLLED tie prio n) (omega (arith, short)))
numbered_takes key id name false tie prio false n short =
    as_takes (32 + padded_len (length name)) (omega arith) (takes_by key _ (32 + padded_len (length name)) (numbered_value_fits id name false tie prio false n short) (with_number name ICE_CONTROLLED tie prio n) (omega (arith, short)))

pub numbered_fits : (key id name : List ℕ) (controlling : Bool) (tie prio : ℕ) (nominates : Bool) (number : Option ℕ) → length name ≤ WRITTEN_USERNAME_LIMIT
    → FitsInto key LONGEST_NUMBERED_CHECK (with_nomination number (binding_request name id controlling tie prio nominates))
numbered_fits key id name controlling tie prio nominates None short room fits = check_fits key id name controlling tie prio nominates short room (omega (arith, fits))
numbered_fits key id name controlling tie prio nominates (Some n) short room fits =
    (numbered_takes key id name controlling tie prio nominates n short).fits room (within nominates)
  where
    within : (b : Bool) → check_len name b + 8 ≤ room
    within true = omega (arith, short, fits)
    within false = omega (arith, short, fits)

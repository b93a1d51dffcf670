-- Flow and scope of addresses are not written.
use Rattle.is_stun.proofs.Common.{◌+◌, ◌≡◌, ap, class_bits, IsWrittenPlain, List, Message, method_bits, None, Option, option_map, option_or}
use Rattle.is_stun.proofs.Common.{plain, plain_address, PlainReply, refl, rejection, Row, rows_of, rows_rejection, SocketAddr, Some, V4, V6}
use Rattle.is_stun.proofs.Common.{value_rejection, written, written_rows, xor_address, ℕ}

xor_plain : (id : List ℕ) (a : SocketAddr) → xor_address id a ≡ xor_address id (plain_address a)
unfolding xor_address
xor_plain id (V4 a) = refl
xor_plain id (V6 a) = refl

value_plain : (id : List ℕ) (o : Option SocketAddr) → option_map (xor_address id) o ≡ option_map (xor_address id) (option_map plain_address o)
value_plain id None = refl
value_plain id (Some a) = ap Some (xor_plain id a)

pub rows_plain : (m : Message) → rows_of m.id m.attributes ≡ rows_of m.id (plain m).attributes
rows_plain m =
    rw (value_plain m.id m.attributes.xor_mapped_address, value_plain m.id m.attributes.xor_relayed_address, value_plain m.id m.attributes.xor_peer_address) refl

pub written_plain : (mac : List ℕ → List ℕ → List ℕ) (key : Option (List ℕ)) (m : Message) → IsWrittenPlain mac key m
unfolding written
written_plain mac key m = ap (written_rows mac key (class_bits m.class + method_bits m.method) m.id) (rows_plain m)

pub reply_plain : (mac : List ℕ → List ℕ → List ℕ) (key id : List ℕ) (a : SocketAddr) → PlainReply mac key id a
unfolding written xor_address
reply_plain mac key id (V4 a) = refl
reply_plain mac key id (V6 a) = refl

pub rejection_plain : (key : Option (List ℕ)) (room : ℕ) (m : Message) → rejection key room m ≡ rejection key room (plain m)
unfolding rejection value_rejection
rejection_plain key room m = ap (λ (rows : List Row). option_or (value_rejection m) (rows_rejection key room rows)) (rows_plain m)

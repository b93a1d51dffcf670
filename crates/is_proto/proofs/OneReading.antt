-- If a text encodes at most one value, there is one way to read it.
use Rattle.std.proofs.Common.{◌≡◌, ℕ, List, Option, Some, None, refl, ap}
use Rattle.std.specs.declared.net.socket_addr.SocketAddr.{SocketAddr}
use Rattle.std.proofs.NetLemmas.Theorems.{IsSocketText_unique}
use Rattle.is_proto.specs.Reads.{Reads}
use Rattle.is_proto.specs.Sockets.{IsPlainSocketText}
use Rattle.is_proto.specs.declared.proto.SocketText.{SocketText}

pub one_reading : {A : Type 0} (Spells : List ℕ → A → Type 0) (text : List ℕ)
    → ((a b : A) → Spells text a → Spells text b → a ≡ b)
    → (r s : Option A) → Reads Spells text r → Reads Spells text s → r ≡ s
one_reading Spells text unique (Some a) (Some b) h k = ap Some (unique a b h k)
one_reading Spells text unique (Some a) None h k = absurd (k a h)
one_reading Spells text unique None (Some b) h k = absurd (h b k)
one_reading Spells text unique None None h k = refl

-- a text writes one address at most
pub one_address : (text : List ℕ) (a b : SocketText) → IsPlainSocketText text a.0 → IsPlainSocketText text b.0 → a ≡ b
one_address text a b h k = ap (λ (x : SocketAddr). record { 0 = x }) (IsSocketText_unique text a.0 b.0 h.0 k.0)

-- The slots by which a combination finds the pairs that may be redundant: contracts of internal functions.
use Rattle.std.specs.Prelude.{◌≡◌, ℕ, ◌+◌, ◌*◌, ◌%◌, ◌^◌, ◌<◌, ◌⊎◌, List, length, slice_index}
use Rattle.std.specs.declared.net.socket_addr.SocketAddr.{SocketAddr}
use Rattle.std.specs.declared.net.socket_addr.SocketAddr.TheVariants.{V4, V6}
use Rattle.std.specs.Net.Addr.{ipv4_bits, ipv6_segments}
use Rattle.std.specs.Net.Socket.{v4_ip, v4_port, v6_ip, v6_port}
use Rattle.is_proto.specs.Lists.{Has}
use Rattle.is_proto.specs.Times.{MAX}
use Rattle.is_candidate.specs.Candidates.{base_of, candidate_at}
use Rattle.is_pair.specs.Pairs.{PairRecord}
use Rattle.is_rules.specs.Forming.{SidesRecord, Combination}

-- a number of an address; of IPv6, one segment of its prefix and the last one count
abbrev pub address_number : SocketAddr → ℕ
address_number (V4 a) = ipv4_bits (v4_ip a) * 2 ^ 16 + v4_port a
address_number (V6 a) = (slice_index (ipv6_segments (v6_ip a)) 3 * 2 ^ 16 + slice_index (ipv6_segments (v6_ip a)) 7) * 2 ^ 16 + v6_port a

abbrev pub path_number : SocketAddr → SocketAddr → ℕ
path_number base address = address_number base * 65521 + address_number address

-- the slot of a combination, of so many
abbrev pub slot_of : SidesRecord → ℕ → Combination → ℕ
slot_of s many at = path_number (base_of (candidate_at s.local at.0)) (candidate_at s.remote at.1).addr % many

-- The slot holds one more than the number, or the greatest one: then there may be several.
abbrev pub IsHeld : List ℕ → ℕ → ℕ → Type 0
IsHeld held slot number = (slice_index held slot ≡ number + 1) ⊎ (slice_index held slot ≡ MAX)

-- If there are slots, that of each pair holds it.
abbrev pub AreHeld : SidesRecord → List ℕ → List PairRecord → Type 0
AreHeld s held pairs = 0 < length held → (p : PairRecord) → Has pairs p → IsHeld held (slot_of s (length held) (p.local, p.remote)) p.number

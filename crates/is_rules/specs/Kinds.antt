-- Which pair is checked ahead of those that are due earlier: the selected one, then urgent pairs, and else those of the next kind, since
-- kinds of pairs take turns (RFC 8445, section 6.1.4.2; RFC 8421, section 4).
use Rattle.std.specs.Prelude.{◌≡◌, ℕ, ◌+◌, ◌*◌, ◌==◌, ◌<◌, ◌&&◌, ◌||◌, ◌⊎◌, Bool, true, not, nat_le, List, slice_index, Option, Some, None, if◌then◌else◌}
use Rattle.std.specs.List.{list_any}
use Rattle.std.specs.Net.Addr.{ipv4_octets, ipv6_segments}
use Rattle.std.specs.Net.Socket.{socket_ip}
use Rattle.std.specs.declared.net.ip_addr.IpAddr.{IpAddr}
use Rattle.std.specs.declared.net.ip_addr.IpAddr.TheVariants as Ip
use Rattle.std.specs.declared.net.socket_addr.SocketAddr.{SocketAddr}
use Rattle.is_proto.specs.Lists.{Has, NonePass}
use Rattle.is_candidate.specs.Addresses.{is_public, is_v4, same_address, same_version}
use Rattle.is_candidate.specs.Candidates.{CandidateRecord, base_of, candidate_at}
use Rattle.is_candidate.specs.Kinds.{same_kind}
use Rattle.is_candidate.specs.declared.candidate.kind.CandidateKind.{CandidateKind}
use Rattle.is_candidate.specs.declared.candidate.kind.CandidateKind.TheVariants.{Host, PeerReflexive, ServerReflexive, Relayed}
use Rattle.is_pair.specs.Due.{is_due, is_urgent, GoesBefore}
use Rattle.is_pair.specs.Pairs.{PairRecord, is_valid}
use Rattle.is_pair.specs.Multiset.{is_named_by}
use Rattle.is_stun.specs.declared.timing.StunTiming.{StunTiming}
use Rattle.is_rules.specs.declared.kinds.Precedence.{Precedence}

-- ---- the kind of a pair

-- The kind that a candidate counts as. A host candidate with a public address counts as server-reflexive: a STUN server would answer with
-- this address, and the server-reflexive candidate would be redundant (RFC 8445, section 5.1.3).
abbrev pub counted_kind : CandidateRecord → CandidateKind
counted_kind c = if same_kind c.kind Host && is_public (socket_ip c.addr) then ServerReflexive else c.kind

-- A live candidate that counts as server-reflexive.
abbrev pub is_reflexive : CandidateRecord → Bool
is_reflexive c = same_kind (counted_kind c) ServerReflexive && not c.discarded

-- The candidate is a live one that counts as server-reflexive, and has this base: packets from the base reach the outside.
abbrev pub is_reflexive_of : SocketAddr → CandidateRecord → Bool
is_reflexive_of base c = is_reflexive c && same_address (base_of c) base

-- The candidate is a live one that counts as server-reflexive, and its base has the IP version of this one.
abbrev pub is_reflexive_like : SocketAddr → CandidateRecord → Bool
is_reflexive_like base c = is_reflexive c && same_version (base_of c) base

-- What is known of packets from a candidate. They reach the outside: it is a relayed one, or a candidate that counts as server-reflexive has
-- its base.
abbrev pub OUTSIDE : ℕ
OUTSIDE = 0

-- They stay inside: such a candidate has a base of the IP version, and none has its base.
abbrev pub INSIDE : ℕ
INSIDE = 1

-- Nothing is known: no such candidate has a base of the IP version.
abbrev pub UNKNOWN : ℕ
UNKNOWN = 2

abbrev pub reach_of : List CandidateRecord → CandidateRecord → ℕ
reach_of local c =
    if same_kind c.kind Relayed || list_any (is_reflexive_of (base_of c)) local then OUTSIDE
    else (if list_any (is_reflexive_like (base_of c)) local then INSIDE else UNKNOWN)

-- The network of an address by its number, as most are numbered: a subnet of 24 bits of IPv4, or a site of 48 bits of IPv6 (RFC 4193,
-- section 3.1). Those of IPv4 come after all of IPv6.
abbrev pub network_of : IpAddr → ℕ
network_of (Ip.V4 a) = 281474976710656 + 65536 * slice_index (ipv4_octets a) 0 + 256 * slice_index (ipv4_octets a) 1 + slice_index (ipv4_octets a) 2
network_of (Ip.V6 a) = 4294967296 * slice_index (ipv6_segments a) 0 + 65536 * slice_index (ipv6_segments a) 1 + slice_index (ipv6_segments a) 2

-- that of the base, and that of the address
abbrev pub base_network : CandidateRecord → ℕ
base_network c = network_of (socket_ip (base_of c))

abbrev pub own_network : CandidateRecord → ℕ
own_network c = network_of (socket_ip c.addr)

-- Peer-reflexive candidates come first, since the peer sent a packet from there. Host candidates come last, since they have the
-- greatest priorities.
abbrev pub kind_rank : CandidateKind → ℕ
kind_rank PeerReflexive = 0
kind_rank ServerReflexive = 1
kind_rank Relayed = 2
kind_rank Host = 3

abbrev pub version_rank : SocketAddr → ℕ
version_rank addr = if is_v4 addr then 1 else 0

-- the remote candidate's part: the kind that it counts as, and the IP version
abbrev pub remote_rank : CandidateRecord → ℕ
remote_rank r = 2 * kind_rank (counted_kind r) + version_rank r.addr

-- The pair is an inner one: packets of its local candidate stay inside; or, as long as nothing is known of them, its addresses are of one
-- network.
abbrev pub is_inner : ℕ → CandidateRecord → CandidateRecord → Bool
is_inner reach l r = reach == INSIDE || (reach == UNKNOWN && base_network l == own_network r)

-- All inner pairs are of one kind, so that they take few turns.
abbrev pub INNER : ℕ
INNER = 8

abbrev pub kind_between : List CandidateRecord → CandidateRecord → CandidateRecord → ℕ
kind_between local l r = if is_inner (reach_of local l) l r then INNER else remote_rank r

-- the kind of a pair, a number from 0 to 8
abbrev pub kind_of : List CandidateRecord → List CandidateRecord → PairRecord → ℕ
kind_of local remote p = kind_between local (candidate_at local p.local) (candidate_at remote p.remote)

-- ---- turns

-- how many kinds of pairs there are: one for each rank of a remote candidate, and the inner one
abbrev pub KINDS : ℕ
KINDS = 9

-- The place of a kind in the round that begins with `next`: the kinds from `next` on come before the others.
abbrev pub turn_of : ℕ → ℕ → ℕ
turn_of next kind = if nat_le next kind then kind else kind + KINDS

-- Of the urgent pairs, those that a request brought come last, so that replays from new addresses hold up no others.
abbrev pub is_brought : List CandidateRecord → PairRecord → Bool
is_brought remote p = same_kind (candidate_at remote p.remote).kind PeerReflexive && not (is_valid p)

-- The pair comes before all kinds: it is the one with this number, or it is urgent and urgent pairs come first.
abbrev pub goes_first : Precedence → PairRecord → Bool
goes_first first p = is_named_by first.selected p || (first.urgent && is_urgent p)

abbrev pub is_first_due : Precedence → ℕ → StunTiming → PairRecord → Bool
is_first_due first now t p = is_due now t p && goes_first first p

module _ (local remote : List CandidateRecord) (first : Precedence) (next now : ℕ) (t : StunTiming) where
  -- the selected pair, then urgent pairs, then the kinds in their turns
  abbrev pub turn_of_pair : PairRecord → ℕ
  turn_of_pair p =
      if is_named_by first.selected p then 0
      else (if first.urgent && is_urgent p then (if is_brought remote p then 2 else 1) else 3 + turn_of next (kind_of local remote p))

  -- The turn of p comes earlier than that of q, or they have the same turn and p is due earlier.
  abbrev pub TurnsBefore : PairRecord → PairRecord → Type 0
  TurnsBefore p q = (turn_of_pair p < turn_of_pair q) ⊎ ((turn_of_pair p ≡ turn_of_pair q) × GoesBefore now t p q)

  -- Of the due pairs, those whose turn comes first; of these the pair that is due first. None if no pair is due.
  abbrev pub IsNextAhead : List PairRecord → Option PairRecord → Type 0
  IsNextAhead pairs None = NonePass (is_due now t) pairs
  IsNextAhead pairs (Some p) =
      Has pairs p × (is_due now t p ≡ true) × ((q : PairRecord) → Has pairs q → is_due now t q ≡ true → TurnsBefore p q)

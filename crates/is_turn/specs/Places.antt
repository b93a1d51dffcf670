-- The places for leases of a TURN client: a list whose length stays. A lease at a place is a channel's for ever.
use Rattle.std.specs.Prelude.{ℕ, ◌+◌, Bool, true, false, List, map, fold, min, nat_le, nat_lt, position, slice_index_or, slice_set, is_some, Option, Some, None, if◌then◌else◌}
use Rattle.std.specs.declared.net.socket_addr.SocketAddr.{SocketAddr}
use Rattle.is_proto.specs.Times.{MAX}
use Rattle.is_proto.specs.declared.proto.Instant.{Instant}
use Rattle.is_turn.specs.declared.lease.Lease.{Lease}
use Rattle.is_turn.specs.Leases.{new_lease, unused, is_permission_of, is_channel_of, has_number, is_held_back, is_free, is_open, carries, used_at, named_at, due_of, is_due_by, renewal_time, time_or_never}

-- the lease at a place
abbrev pub at_place : ℕ → List Lease → Lease
at_place place l = slice_index_or l place unused

-- ---- the user

-- the lease at this place is named, and so used, unless the server barred it lately
abbrev pub named_by : Instant → ℕ → Lease → List Lease → List Lease × Bool
named_by now place g l = if is_held_back now g then (l, false) else (slice_set l place (named_at now g), true)

abbrev pub named_in : Instant → ℕ → List Lease → List Lease × Bool
named_in now place l = named_by now place (at_place place l) l

abbrev pub added_at : Lease → Option ℕ → List Lease → List Lease × Bool
added_at g None l = (l, false)
added_at g (Some place) l = (slice_set l place g, true)

-- the first free place is taken
abbrev pub added : Instant → Lease → List Lease → List Lease × Bool
added now g l = added_at g (position (is_free now) l) l

abbrev pub permitted_by : Instant → SocketAddr → Option ℕ → List Lease → List Lease × Bool
permitted_by now ip (Some place) l = named_in now place l
permitted_by now ip None l = added now (new_lease ip None now) l

-- the permission of an IP address is requested, or used; false: there is no place, or the server barred it lately
abbrev pub permitted : Instant → SocketAddr → List Lease → List Lease × Bool
permitted now ip l = permitted_by now ip (position (is_permission_of ip) l) l

-- the number of a channel is that of its place: 0x4000 to 0x4FFF
abbrev pub channel_added_at : Instant → SocketAddr → Option ℕ → List Lease → List Lease
channel_added_at now peer None l = l
channel_added_at now peer (Some place) l =
    if nat_lt place 4096 then slice_set l place (new_lease peer (Some (0x4000 + place)) now) else l

abbrev pub channel_named_by : Instant → SocketAddr → Option ℕ → List Lease → List Lease
channel_named_by now peer (Some place) l = (named_in now place l).0
channel_named_by now peer None l = channel_added_at now peer (position (is_free now) l) l

-- the channel of a peer is requested, or used
abbrev pub with_channel : Instant → SocketAddr → List Lease → List Lease
with_channel now peer l = channel_named_by now peer (position (is_channel_of peer) l) l

abbrev pub bound_number : Lease → Option ℕ
bound_number g = if is_some g.until then g.number else None

abbrev pub bound_at : Option ℕ → List Lease → Option ℕ
bound_at None l = None
bound_at (Some place) l = bound_number (at_place place l)

-- the number of a peer's channel, if it is bound
abbrev pub bound_channel : SocketAddr → List Lease → Option ℕ
bound_channel peer l = bound_at (position (is_channel_of peer) l) l

-- ---- data of a peer

abbrev pub used_in : Instant → Option ℕ → List Lease → List Lease
used_in now None l = l
used_in now (Some place) l = slice_set l place (used_at now (at_place place l))

abbrev pub heard_by : Instant → SocketAddr → ℕ → List Lease → List Lease × Bool
heard_by now peer place l =
    if is_open (at_place place l)
    then (used_in now (position (is_channel_of peer) (slice_set l place (used_at now (at_place place l)))) (slice_set l place (used_at now (at_place place l))), true)
    else (l, false)

abbrev pub heard_at : Instant → SocketAddr → Option ℕ → List Lease → List Lease × Bool
heard_at now peer None l = (l, false)
heard_at now peer (Some place) l = heard_by now peer place l

-- data of a peer counts, and the leases are used, if its IP address, the second argument, has an open permission
abbrev pub heard : Instant → SocketAddr → SocketAddr → List Lease → List Lease × Bool
heard now ip peer l = heard_at now peer (position (is_permission_of ip) l) l

abbrev pub peer_if : Lease → Option SocketAddr
peer_if g = if carries g then g.peer else None

abbrev pub peer_at : Option ℕ → List Lease → Option SocketAddr
peer_at None l = None
peer_at (Some place) l = peer_if (at_place place l)

-- the peer of a channel that is bound, or being bound
abbrev pub channel_peer : ℕ → List Lease → Option SocketAddr
channel_peer n l = peer_at (position (has_number n) l) l

-- ---- the clock

-- the earliest time at which a request has something due
abbrev pub earliest_due : List Lease → ℕ
earliest_due l = fold min MAX (map due_of l)

-- the place of the request that is due first, if one is
abbrev pub due_place : Instant → List Lease → Option ℕ
due_place now l = if nat_le (earliest_due l) now.0 then position (is_due_by (earliest_due l)) l else None

abbrev pub change_time : Lease → ℕ
change_time g = min (renewal_time g) (time_or_never g.until)

-- the earliest renewal or end
abbrev pub earliest_change : List Lease → ℕ
earliest_change l = fold min MAX (map change_time l)

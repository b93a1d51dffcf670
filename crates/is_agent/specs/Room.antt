-- Reserved capacity for what a call can add.
use Rattle.std.specs.Prelude.{◌≡◌, ℕ, ◌+◌, ◌≤◌, ◌<◌, ◌&&◌, true, IfSome, length, vec_len, vec_capacity, string_bytes}
use Rattle.std.specs.VecDeque.{deque_len, deque_capacity}
use Rattle.is_pair.specs.Checklists as checklists
use Rattle.is_pair.specs.Checklists.{HasRoom, multiset_of}
use Rattle.is_agent.specs.declared.agent.Agent.{Agent}
use Rattle.is_rules.specs.Fitting.{CHECK_ROOM}
use Rattle.is_rules.specs.Checking.{username_between}
use Rattle.is_rules.specs.Due.{may_fall_due}
use Rattle.is_rules.specs.Agent.{AgentRecord}
use Rattle.is_rules.specs.StateUpdates.{updates_late, has_selected}
use Rattle.is_agent.specs.Live.{live_count, needed_room, room_for}
use Rattle.is_agent.specs.View.{record_of}

module _ {H P : Type 0} where
  -- this many events more, beyond the room that is kept
  abbrev pub HasEventRoom : ℕ → Agent H P → Type 0
  HasEventRoom n a = deque_len a.events + a.kept_room + n ≤ deque_capacity a.events

  -- all candidates can be invalidated once there are this many pairs more
  abbrev pub KeepsRoomFor : (pairs : ℕ) → Agent H P → Type 0
  KeepsRoomFor pairs a = room_for (live_count a.local.items + live_count a.remote.items) (length (multiset_of a.pairs) + pairs) ≤ a.kept_room

  -- the same, and one more candidate
  abbrev pub HasCandidateRoom : (pairs : ℕ) → Agent H P → Type 0
  HasCandidateRoom pairs a = room_for (live_count a.local.items + live_count a.remote.items + 1) (length (multiset_of a.pairs) + pairs) ≤ a.kept_room

  -- room is kept for two events more than are needed to invalidate all candidates
  abbrev pub HasRoomToRelease : Agent H P → Type 0
  HasRoomToRelease a = needed_room a.local.items a.remote.items (multiset_of a.pairs) + 2 ≤ a.kept_room

  -- one more source, and this many events
  abbrev pub HasDiscoveryRoom : ℕ → Agent H P → Type 0
  HasDiscoveryRoom n a = (vec_len a.discovered_sources < vec_capacity a.discovered_sources) × HasEventRoom n a

  -- so many events at most took of the room: where so many and n more fitted before, n more fit
  abbrev pub UsesEvents : ℕ → Agent H P → Agent H P → Type 0
  UsesEvents used old new =
      deque_len new.events + new.kept_room + deque_capacity old.events ≤ deque_len old.events + old.kept_room + deque_capacity new.events + used

  -- and no source did
  abbrev pub UsesDiscoveryRoom : ℕ → Agent H P → Agent H P → Type 0
  UsesDiscoveryRoom used old new = (vec_len new.discovered_sources + vec_capacity old.discovered_sources ≤ vec_len old.discovered_sources + vec_capacity new.discovered_sources) × UsesEvents used old new

  -- one more packet
  abbrev pub HasPacketRoom : Agent H P → Type 0
  HasPacketRoom a = deque_len a.packets < deque_capacity a.packets

  -- one more candidate, pair and packet
  abbrev pub HasServingRoom : Agent H P → Type 0
  HasServingRoom a = (vec_len a.remote < vec_capacity a.remote) × HasRoom 1 a.pairs × HasPacketRoom a × HasCandidateRoom 1 a

  -- one more local candidate, and this many pairs
  abbrev pub HasLocalRoom : ℕ → Agent H P → Type 0
  HasLocalRoom pairs a = (vec_len a.local < vec_capacity a.local) × HasRoom pairs a.pairs × HasCandidateRoom pairs a

  -- this many pairs more
  abbrev pub HasPairRoom : ℕ → Agent H P → Type 0
  HasPairRoom n a = HasRoom n a.pairs × KeepsRoomFor n a

  -- one more early request
  abbrev pub HasQueueRoom : Agent H P → Type 0
  HasQueueRoom a = deque_len a.queue < deque_capacity a.queue

  -- one more remote candidate, and this many pairs
  abbrev pub HasFormingRoom : ℕ → Agent H P → Type 0
  HasFormingRoom pairs a = (vec_len a.remote < vec_capacity a.remote) × HasRoom pairs a.pairs × HasCandidateRoom pairs a

  -- if the peer is known, the USERNAME of a check
  abbrev pub HasUsername : Agent H P → Type 0
  HasUsername a = IfSome a.remote_creds (λ peer. string_bytes a.username ≡ username_between peer a.local_creds)

  -- and a buffer for the longest one
  abbrev pub HasContents : Agent H P → Type 0
  HasContents a = IfSome a.remote_creds (λ _. length a.contents.items ≡ CHECK_ROOM)

  abbrev pub IsPrepared : Agent H P → Type 0
  IsPrepared a = HasUsername a × HasContents a

  -- one more packet, one more check of any pair, and the content of the packet
  abbrev pub HasCheckRoom : Agent H P → Type 0
  HasCheckRoom a = HasPacketRoom a × checklists.HasCheckRoom a.timing.max_retransmits a.pairs × IsPrepared a

  -- the same, if a check may be due at this time
  abbrev pub HasCheckRoomAt : ℕ → Agent H P → Type 0
  HasCheckRoomAt now a = may_fall_due now (record_of a) ≡ true → HasCheckRoom a

  -- two events more, if with `Modern` another path is selected once the selected pair is removed
  abbrev pub HasSelectionRoom : AgentRecord H P → Agent H P → Type 0
  HasSelectionRoom old a = (updates_late old && has_selected old) ≡ true → HasEventRoom 2 a

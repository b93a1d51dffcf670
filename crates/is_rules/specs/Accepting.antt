-- Which messages the agent accepts, and what it does with a packet (RFC 8445, sections 7.2.5 and 7.3).
use Rattle.std.specs.Prelude.{◌≡◌, ℕ, ◌&&◌, ◌||◌, Bool, true, false, not, List, [], ◌∷◌, ◌++◌, IfSome, IsSomeAnd, Option, Some, None, is_some, Result, Ok, Err}
use Rattle.std.specs.Prelude.{if◌then◌else◌}
use Rattle.std.specs.List.{list_any}
use Rattle.is_proto.specs.Times.{counted}
use Rattle.is_proto.specs.declared.error.IceError.{IceError}
use Rattle.is_proto.specs.declared.error.IceError.TheVariants.{OutOfMemory}
use Rattle.is_candidate.specs.Addresses.{same_address, same_protocol}
use Rattle.is_pair.specs.Pairs.{PairRecord}
use Rattle.is_stun.specs.declared.header.Class.{Class}
use Rattle.is_stun.specs.declared.header.Class.TheVariants.{Request, Success, Failure}
use Rattle.is_stun.specs.declared.header.Method.TheVariants.{Binding}
use Rattle.is_stun.specs.Message.{Message, split_username}
use Rattle.is_stun.specs.Integrity.{IsSignedBy}
use Rattle.is_stun.specs.Timing.{is_modern}
use Rattle.is_rules.specs.declared.accepting.Source.{Source}
use Rattle.is_rules.specs.declared.event.IceAgentEvent.TheVariants.{DiscoveredRecv}
use Rattle.is_rules.specs.declared.emitted.Path.{Path}
use Rattle.is_rules.specs.declared.emitted.Emitted.{Emitted}
use Rattle.is_rules.specs.Request.{RequestRecord, request_in}
use Rattle.is_rules.specs.Emitted.{nothing_emitted}
use Rattle.is_rules.specs.Agent.{AgentRecord}
use Rattle.is_rules.specs.Limit.{newest, is_crowded}
use Rattle.is_rules.specs.Serving.{HandlesRequest, MayFailAtArrival}
use Rattle.is_pair.specs.Multiset.{keeps_check}
use Rattle.is_rules.specs.Answers.{keeps_check_on, HandlesSuccess, HandlesFailure}

-- The accepted message is a request that is dropped: the peer is known, and there is no response.
abbrev pub is_dropped : Class → Bool → Emitted → Bool
is_dropped Request knows_peer emitted = knows_peer && not (is_some emitted.issued)
is_dropped _ knows_peer emitted = false

-- The packet came from this discovered source.
abbrev pub is_source : Path → Source → Bool
is_source path s = same_address s.address path.source && same_protocol s.proto path.proto

module _ {H P : Type 0} where
  -- ---- accepting

  -- USERNAME is the agent's own username fragment, a colon, and the peer's username fragment if it is known (RFC 8445, section
  -- 7.2.2).
  abbrev pub IsAddressed : AgentRecord H P → Message → Type 0
  IsAddressed a m =
      IsSomeAnd (split_username m.attributes) (λ name. (name.0 ≡ a.local_creds.ufrag) × IfSome a.remote_creds (λ peer. name.1 ≡ peer.ufrag))

  -- the peer's response to a pending transaction
  abbrev pub IsAwaited : (H → List ℕ → List ℕ → List ℕ) → (PairRecord → Bool) → AgentRecord H P → Message → Type 0
  IsAwaited mac keeps a m = (list_any keeps a.pairs ≡ true) × IsSomeAnd a.remote_creds (λ peer. IsSignedBy (mac a.provider) m peer.pass)

  -- By the class: a request has this USERNAME, and is signed with the present local password; a response is for a pending
  -- transaction, and is signed with the remote password.
  abbrev pub IsAcceptedAs : (H → List ℕ → List ℕ → List ℕ) → Class → (PairRecord → Bool) → AgentRecord H P → Message → Type 0
  IsAcceptedAs mac Request keeps a m = IsAddressed a m × IsSignedBy (mac a.provider) m a.local_creds.pass
  IsAcceptedAs mac Success keeps a m = IsAwaited mac keeps a m
  IsAcceptedAs mac Failure keeps a m = IsAwaited mac keeps a m
  IsAcceptedAs mac _ keeps a m = ⊥

  abbrev pub IsAcceptedBy : (H → List ℕ → List ℕ → List ℕ) → (PairRecord → Bool) → AgentRecord H P → Message → Type 0
  IsAcceptedBy mac keeps a m = (m.method ≡ Binding) × IsAcceptedAs mac m.class keeps a m

  -- `accepts_message`, which does not see addresses
  abbrev pub IsAccepted : (H → List ℕ → List ℕ → List ℕ) → AgentRecord H P → Message → Type 0
  IsAccepted mac a m = IsAcceptedBy mac (keeps_check m.id) a m

  -- `accepts_packet`: a response is received on the reverse of its check's path.
  abbrev pub IsAcceptedOn : (H → List ℕ → List ℕ → List ℕ) → AgentRecord H P → Path → Message → Type 0
  IsAcceptedOn mac a path m = IsAcceptedBy mac (keeps_check_on a path m.id) a m

  -- ---- discovered sources

  abbrev pub is_discovered : Path → AgentRecord H P → Bool
  is_discovered path a = list_any (is_source path) a.discovered_sources

  -- With `Modern`, a request that is dropped reports no source. `a` is the agent after the message, and `emitted` is what it emitted for it.
  abbrev pub reports_none : Class → Emitted → AgentRecord H P → Bool
  reports_none class emitted a = is_modern a.timing && is_dropped class (is_some a.remote_creds) emitted

  -- With a limit, a source is not reported while as many events wait to be polled.
  abbrev pub is_passed_over : Class → Emitted → Path → AgentRecord H P → Bool
  is_passed_over class emitted path a = is_discovered path a || is_crowded a || reports_none class emitted a

  -- A protocol and source address that was not seen since the last ICE restart is discovered: its event is emitted, and counted.
  -- With a limit, only the newest sources are kept.
  abbrev pub discovered_emitted : Class → Emitted → Path → AgentRecord H P → AgentRecord H P
  discovered_emitted class emitted path a = record a {
    discovered_sources = if is_passed_over class emitted path a then a.discovered_sources else newest a.max_discovered (a.discovered_sources ++ record { proto = path.proto; address = path.source } ∷ []);
    events = if is_passed_over class emitted path a then a.events else a.events ++ DiscoveredRecv path.proto path.source ∷ [];
    stats = record a.stats {
      discovered_recv_count = if is_passed_over class emitted path a then a.stats.discovered_recv_count else counted a.stats.discovered_recv_count;
    };
  }

  -- ---- packets

  -- what an accepted message does, by its class
  abbrev pub Takes : (H → List ℕ → List ℕ → List ℕ) → Class → ℕ → AgentRecord H P → Path → Message → Emitted → AgentRecord H P → Type 0
  Takes mac Request now old path m emitted new = HandlesRequest mac (request_in now path m) old emitted new
  Takes mac Success now old path m emitted new = HandlesSuccess now old path m emitted new
  Takes mac Failure now old path m emitted new = HandlesFailure old path m emitted new
  Takes mac _ now old path m emitted new = ⊥

  -- An accepted request may fail as its arrival may; a response fails only for an allocation failure.
  abbrev pub MayFailAs : Class → AgentRecord H P → RequestRecord → IceError → Type 0
  MayFailAs Request a q error = MayFailAtArrival a q error
  MayFailAs _ a q error = error ≡ OutOfMemory

  abbrev pub MayFailAtPacket : (H → List ℕ → List ℕ → List ℕ) → ℕ → AgentRecord H P → Path → Message → IceError → Type 0
  MayFailAtPacket mac now a path m error = IsAcceptedOn mac a path m × MayFailAs m.class a (request_in now path m) error

  -- `handle_packet`: a packet that is not accepted changes nothing.
  abbrev pub HandlesPacket : (H → List ℕ → List ℕ → List ℕ) → ℕ → AgentRecord H P → Path → Message → Result Bool IceError → Emitted
      → AgentRecord H P → Type 0
  HandlesPacket mac now old path m (Ok false) emitted new = ¬ IsAcceptedOn mac old path m × (emitted ≡ nothing_emitted) × (new ≡ old)
  HandlesPacket mac now old path m (Ok true) emitted new =
      IsAcceptedOn mac old path m × ((mid : AgentRecord H P) × Takes mac m.class now old path m emitted mid × (new ≡ discovered_emitted m.class emitted path mid))
  HandlesPacket mac now old path m (Err error) emitted new = MayFailAtPacket mac now old path m error × (emitted ≡ nothing_emitted) × (new ≡ old)

  -- what happens to a packet of this class, by whether it is accepted
  abbrev pub Arrives : Type 0 → (H → List ℕ → List ℕ → List ℕ) → Class → ℕ → AgentRecord H P → Path → Message
      → Result (Option Emitted) IceError → AgentRecord H P → Type 0
  Arrives Accepted mac class now old path m (Ok None) new = ¬ Accepted × (new ≡ old)
  Arrives Accepted mac class now old path m (Ok (Some emitted)) new = Accepted × Takes mac class now old path m emitted new
  Arrives Accepted mac class now old path m (Err error) new = Accepted × MayFailAs class old (request_in now path m) error × (new ≡ old)

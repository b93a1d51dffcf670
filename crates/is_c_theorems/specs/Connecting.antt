-- How both of two agents of C become connected: the network delivers three checks and their responses, with the bytes that were sent. It may do
-- anything else, and C makes any other calls on both agents.
use Rattle.std.specs.Prelude.{◌≡◌, ℕ, ◌⊎◌, ◌++◌, Bool, true, false, not, List, [], ◌∷◌, Some, None, ℤ, pos, negsuc}
use Rattle.std.specs.List.{list_any}
use Rattle.is_proto.specs.Lists.{Has}
use Rattle.is_proto.specs.Packets.{Packet}
use Rattle.is_pair.specs.Pairs.{PairRecord}
use Rattle.is_stun.specs.declared.header.Class.TheVariants as class
use Rattle.is_stun.specs.Message.{Message}
use Rattle.is_stun.specs.Reading.{Reads}
use Rattle.is_rules.specs.declared.credentials.IceCreds.{IceCreds}
use Rattle.is_rules.specs.declared.emitted.Path.{Path}
use Rattle.is_rules.specs.Answers.{is_reverse, keeps_check_on}
use Rattle.is_rules.specs.Connecting.{is_connected}
use Rattle.is_rules.specs.Emitted.{reversed}
use Rattle.is_rules.specs.Fitting.{are_too_long}
use Rattle.is_rules.specs.Issuing.{via_out}
use Rattle.is_rules.specs.Queue.{request_at}
use Rattle.is_theorems.specs.Asked.{IsOnlyPair, UsesAddressesOf}
use Rattle.is_theorems.specs.Asking.{AreNominatedOn}
use Rattle.is_theorems.specs.Delivery.{IsFragment, IsReachedBy}
use Rattle.is_c_calls.specs.declared.address.Address.{Address}
use Rattle.is_c_calls.specs.Clock.{agent_time}
use Rattle.is_c_calls.specs.Codes.{OK}
use Rattle.is_c_calls.specs.Held.{HeldRecord}
use Rattle.is_c_calls.specs.Making.{fresh_held}
use Rattle.is_c_calls.specs.Packets.{packet_path}
use Rattle.is_c_calls.specs.Sessions.{Used, Session}
use Rattle.is_c_calls.specs.Uses.{HandlePacket, HandleTimeout, Does}
use Rattle.is_c_theorems.specs.Chosen.{EachKeeps, keeps_modern}

-- ---- one agent

-- C made the agent and then made any calls, of which none makes it lite or leaves the profile `Modern`. Now the slot holds this.
pub record IsInSlot (held : HeldRecord) : Type 0 where
  pub creds : IceCreds
  pub tie_breaker : ℕ
  pub uses : List Used
  pub session : Session (fresh_held creds tie_breaker) uses held
  pub modern : EachKeeps keeps_modern uses

-- Any such calls lead from the one to the other.
pub record Leads (from to : HeldRecord) : Type 0 where
  pub uses : List Used
  pub session : Session from uses to
  pub modern : EachKeeps keeps_modern uses

-- Connected or Completed, as `is_ice_status` says
abbrev pub IsConnected : HeldRecord → Type 0
IsConnected held = is_connected held.agent.state ≡ true

-- an error, as of memory; neither OK nor NOTHING is one
abbrev pub is_error : ℤ → Bool
is_error (pos n) = false
is_error (negsuc n) = true

-- C passes these bytes to `is_ice_handle_packet`, as received on the path.
pub record PassesPacket (path : Path) (bytes : List ℕ) (old : HeldRecord) (code : ℤ) (new : HeldRecord) : Type 0 where
  pub now : ℕ
  pub protocol : ℕ
  pub source : Address
  pub destination : Address
  pub on : packet_path protocol source destination ≡ Some path
  pub does : Does (HandlePacket now protocol source destination bytes) old code new

-- Each success response for which OK is returned connects a controlling agent at once.
abbrev pub ResponsesConnect : Type 0
ResponsesConnect =
    (old new : HeldRecord) (via : Path) (bytes : List ℕ) (m : Message)
    → IsInSlot old → PassesPacket via bytes old OK new → Reads bytes m → m.class ≡ class.Success → new.agent.controlling ≡ true → IsConnected new

-- ---- a check, and its response

-- C set the credentials of each agent at the other one. Their username fragments are not empty, and have no colon.
pub record HaveExchanged (one other : HeldRecord) : Type 0 where
  pub at_one : one.agent.remote_creds ≡ Some other.agent.local_creds
  pub at_other : other.agent.remote_creds ≡ Some one.agent.local_creds
  pub fragment : IsFragment one.agent.local_creds.ufrag
  pub other_fragment : IsFragment other.agent.local_creds.ufrag
  pub fit : are_too_long one.agent.local_creds (Some other.agent.local_creds) ≡ false

-- C had polled all packets. `is_ice_handle_timeout` returns OK, and then this packet is to be polled. It has a Binding request: a check.
pub record SendsCheck (old : HeldRecord) (check : Packet) (m : Message) (new : HeldRecord) : Type 0 where
  pub now : ℕ
  pub random : List ℕ
  pub does : Does (HandleTimeout now random) old OK new
  pub polled : old.agent.packets ≡ []
  pub waits : new.agent.packets ≡ check ∷ []
  pub reads : Reads check.contents m
  pub request : m.class ≡ class.Request

-- One agent sends a check, and C passes its bytes to the other one, at any time, as received on `over`. A NAT may have changed the path. It
-- leads to a local candidate of the other agent. That has the other role, or takes it at this check. No error is returned.
pub record DeliveredCheck : Type 0 where
  pub sender : HeldRecord
  pub sent : HeldRecord
  pub check : Packet
  pub message : Message
  pub receiver : HeldRecord
  pub served : HeldRecord
  pub over : Path
  pub code : ℤ
  pub held : IsInSlot sender
  pub other_held : IsInSlot receiver
  pub sends : SendsCheck sender check message sent
  pub passes : PassesPacket over check.contents receiver code served
  pub no_error : is_error code ≡ false
  pub know : HaveExchanged sender receiver
  pub reached : IsReachedBy receiver.agent over
  pub apart : (receiver.agent.controlling ≡ not sender.agent.controlling) ⊎ (served.agent.controlling ≡ not sender.agent.controlling)

-- The packet that the delivery adds is passed back at any time while the check is pending, as received on the reverse of the check's path.
-- The agents still know each other. No error is returned.
pub record ReturnedReply (d : DeliveredCheck) : Type 0 where
  pub reply : Packet
  pub added : d.served.agent.packets ≡ d.receiver.agent.packets ++ reply ∷ []
  pub mid : HeldRecord
  pub taken : HeldRecord
  pub via : Path
  pub code : ℤ
  pub later : Leads d.sent mid
  pub passes : PassesPacket via reply.contents mid code taken
  pub no_error : is_error code ≡ false
  pub know : HaveExchanged mid d.receiver
  pub pending : list_any (keeps_check_on mid.agent via d.message.id) mid.agent.pairs ≡ true

-- OK is returned for the check, and exactly one packet is added to those that are to be polled, on the reverse of its path.
abbrev pub CheckIsServed : DeliveredCheck → Type 0
CheckIsServed d =
    (d.code ≡ OK) × (reply : Packet) × (d.served.agent.packets ≡ d.receiver.agent.packets ++ reply ∷ []) × (via_out reply ≡ reversed d.over)

-- Each check that is delivered so is served. OK is returned for its response, too.
abbrev pub DeliveredAreAccepted : Type 0
DeliveredAreAccepted = (d : DeliveredCheck) → CheckIsServed d × ((r : ReturnedReply d) → r.code ≡ OK)

-- ---- the controlled agent

-- `is_ice_handle_timeout` returns OK, and no early request waits that it would serve. Or OK is returned for a success response.
abbrev pub Evaluates : HeldRecord → HeldRecord → Type 0
Evaluates old new =
    ((now : ℕ) × (random : List ℕ) × Does (HandleTimeout now random) old OK new × (request_at (agent_time now) old.agent ≡ None))
    ⊎ ((via : Path) × (bytes : List ℕ) × (m : Message) × PassesPacket via bytes old OK new × Reads bytes m × (m.class ≡ class.Success))

-- Each pair with the path's addresses is still there: `is_ice_pairs` has its number.
abbrev pub KeepsPairs : Path → HeldRecord → HeldRecord → Type 0
KeepsPairs path from to =
    (p : PairRecord) → Has from.agent.pairs p → UsesAddressesOf from.agent path p → (q : PairRecord) × Has to.agent.pairs q × (q.number ≡ p.number)

-- A check of the controlling agent on a path whose pairs it nominated is delivered to the controlled one. `path` is the reverse of the path on
-- which it arrives.
pub record NominatingCheck (path : Path) : Type 0 where
  pub check : DeliveredCheck
  pub on : reversed check.over ≡ path
  pub steers : check.sender.agent.controlling ≡ true
  pub follows : check.receiver.agent.controlling ≡ false
  pub still : check.served.agent.controlling ≡ false
  pub nominated : AreNominatedOn check.sent.agent (via_out check.check)

-- The controlled agent's own check is delivered, and its response comes back on the path.
pub record AnsweredCheck (path : Path) : Type 0 where
  pub check : DeliveredCheck
  pub back : ReturnedReply check
  pub comes : is_reverse back.via path ≡ true

-- Both happen, in any order, and with any calls between them. After that the controlled agent evaluates. Only one of its pairs has the path's
-- addresses, and it is still there.
pub record DeliveredNomination : Type 0 where
  pub path : Path
  pub asks : NominatingCheck path
  pub own : AnsweredCheck path
  pub near : HeldRecord
  pub last : HeldRecord
  pub held : IsInSlot near
  pub evaluates : Evaluates near last
  pub after_request : Leads asks.check.served last
  pub after_response : Leads own.back.taken last
  pub kept : KeepsPairs path asks.check.served last
  pub kept_since : KeepsPairs path own.back.taken last
  pub only : IsOnlyPair last.agent path

-- Once a nomination was delivered and the controlled agent evaluates (`DeliveredNomination`), that agent is connected.
abbrev pub NominatedConnect : Type 0
NominatedConnect = (k : DeliveredNomination) → IsConnected k.last

-- The response comes first, and then the nomination, when the pair is still there.
pub record NominationAfterResponse : Type 0 where
  pub path : Path
  pub asks : NominatingCheck path
  pub own : AnsweredCheck path
  pub earlier : Leads own.back.taken asks.check.receiver
  pub there : KeepsPairs path own.back.taken asks.check.receiver
  pub only_one : IsOnlyPair asks.check.served.agent path

-- If the nomination is delivered after the response, the controlled agent is connected at once, by the call that passes the nomination.
abbrev pub NominationsConnect : Type 0
NominationsConnect = (k : NominationAfterResponse) → IsConnected k.asks.check.served

-- ---- both agents

-- A check of the controlling agent is delivered, and its response comes back. A nomination is delivered, too.
pub record BothDelivered : Type 0 where
  pub opening : DeliveredCheck
  pub response : ReturnedReply opening
  pub controlling : response.taken.agent.controlling ≡ true
  pub nomination : DeliveredNomination

-- Both agents become connected: the controlling one as soon as its response is passed, the controlled one as soon as it evaluates.
abbrev pub BothBecomeConnected : Type 0
BothBecomeConnected = (k : BothDelivered) → IsConnected k.response.taken × IsConnected k.nomination.last

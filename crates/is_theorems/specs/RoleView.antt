-- The external view of an agent, as its peer observes it, and what a transition did.
use Rattle.std.specs.Prelude.{ℕ, Bool, true, false, not, ◌&&◌, List, [], ◌∷◌, ◌++◌, map, Option, Some, None, is_some, option_map, if◌then◌else◌}
use Rattle.rand_core.specs.Stream.{Stream}
use Rattle.is_proto.specs.Packets.{Packet}
use Rattle.is_proto.specs.declared.error.ParseFault.{ParseFault}
use Rattle.is_candidate.specs.Candidates.{CandidateRecord}
use Rattle.is_pair.specs.Checks.{Check}
use Rattle.is_pair.specs.Pairs.{PairRecord, is_valid}
use Rattle.is_stun.specs.declared.header.Class.{Class}
use Rattle.is_stun.specs.declared.header.Class.TheVariants as class
use Rattle.is_stun.specs.Message.{Message}
use Rattle.is_stun.specs.Reading.{fault_of, message_of}
use Rattle.is_rules.specs.declared.credentials.IceCreds.{IceCreds}
use Rattle.is_rules.specs.declared.emitted.Issued.{Issued}
use Rattle.is_rules.specs.declared.emitted.Path.{Path}
use Rattle.is_rules.specs.Places.{local_place}
use Rattle.is_rules.specs.Request.{RequestRecord, request_in}
use Rattle.is_rules.specs.Steps.{Answer, Done, Flag, Entry}
use Rattle.is_theorems.specs.RoleState.{Mail, Kept, Sent, RoleState, RoleEvent, RoleEffect, IsNewRoleState}
use Rattle.is_rules.specs.Agent.{AgentRecord, fresh}
use Rattle.is_rules.specs.Sending.{path_of}
use Rattle.is_rules.specs.Serving.{is_for_other_peer}
use Rattle.is_rules.specs.Queue.{request_at}
use Rattle.is_rules.specs.Roles.{keeps_role}
use Rattle.is_rules.specs.Answers.{is_role_conflict}
use Rattle.is_rules.specs.Steps.{Call, SetIceLite, SetControlTieBreaker, SetControlling, ReceivePacket, HandleTimeout, Step}
use Rattle.is_rules.specs.Sound.{IsSound, GivesBased}
use Rattle.is_rules.specs.Effects.{clears}

-- ---- packets, as what their bytes encode

abbrev pub mail_of : Message → Mail
mail_of m = record {
  class = m.class;
  id = m.id;
  ice_controlling = m.attributes.ice_controlling;
  ice_controlled = m.attributes.ice_controlled;
  is_conflict = is_role_conflict m;
}

abbrev pub mail_unless : Option ParseFault → Message → Option Mail
mail_unless None m = Some (mail_of m)
mail_unless (Some fault) m = None

abbrev pub mail_read : List ℕ → Option Mail
mail_read bytes = mail_unless (fault_of bytes) (message_of bytes)

abbrev pub mail_in : Packet → Option Mail
mail_in packet = mail_read packet.contents

-- ---- pairs

abbrev pub kept_as : Path → Check → Kept
kept_as path c = record { path = path; id = c.id; controlling = c.controlling }

module _ {H P : Type 0} where
  abbrev pub all_kept : AgentRecord H P → List PairRecord → List Kept
  all_kept a [] = []
  all_kept a (p ∷ ps) = map (kept_as (path_of a p)) p.checks ++ all_kept a ps

  abbrev pub all_valid : AgentRecord H P → List PairRecord → List Path
  all_valid a [] = []
  all_valid a (p ∷ ps) = if is_valid p then path_of a p ∷ all_valid a ps else all_valid a ps

  abbrev pub role_state_of : AgentRecord H P → RoleState
  role_state_of a = record {
    controlling = a.controlling;
    tie_breaker = a.tie_breaker;
    lite = a.lite;
    keeps = keeps_role a;
    passes = λ q. not (is_for_other_peer a q) && is_some (local_place a.local q);
    queue = a.queue;
    packets = map mail_in a.packets;
    kept = all_kept a a.pairs;
    valid = all_valid a a.pairs;
  }

-- ---- what a transition did

abbrev pub when_accepted : {X : Type 0} → Answer → Option X → Option X
when_accepted (Flag true) x = x
when_accepted _ x = None

abbrev pub when_done : {X : Type 0} → Answer → Option X → Option X
when_done Done x = x
when_done _ x = None

-- A request is served at once if remote credentials are set.
abbrev pub request_when : Option ParseFault → Class → Option IceCreds → RequestRecord → Option RequestRecord
request_when None class.Request (Some peer) q = Some q
request_when _ _ _ q = None

abbrev pub sent_as : Issued → Sent
sent_as i = record { path = i.path; class = i.class; id = i.id.0 }

abbrev pub some_paths : List (Option Path) → List Path
some_paths [] = []
some_paths (Some path ∷ paths) = path ∷ some_paths paths
some_paths (None ∷ paths) = some_paths paths

abbrev pub sets_role : {P : Type 0} → Call P → Bool
sets_role (SetControlling controlling) = true
sets_role (SetControlTieBreaker tie_breaker) = true
sets_role _ = false

abbrev pub sets_lite : {P : Type 0} → Call P → Bool
sets_lite (SetIceLite lite) = lite
sets_lite _ = false

abbrev pub packet_path : {P : Type 0} → Call P → Option Path
packet_path (ReceivePacket now path bytes) = Some path
packet_path _ = None

abbrev pub accepted_by : {P : Type 0} → Call P → Answer → Option Mail
accepted_by (ReceivePacket now path bytes) answer = when_accepted answer (mail_read bytes)
accepted_by _ answer = None

module _ {H P : Type 0} where
  abbrev pub served_by : AgentRecord H P → Call P → Answer → Option RequestRecord
  served_by old (ReceivePacket now path bytes) answer =
      when_accepted answer (request_when (fault_of bytes) (message_of bytes).class old.remote_creds (request_in now path (message_of bytes)))
  served_by old (HandleTimeout now) answer = when_done answer (request_at now old)
  served_by old _ answer = None

  abbrev pub role_event_of : AgentRecord H P → Call P → Entry → RoleEvent
  role_event_of old call e = record {
    accepts = accepted_by call e.answer;
    via = packet_path call;
    serves = served_by old call e.answer;
    issued = option_map sent_as e.emitted.issued;
    selected_paths = some_paths e.emitted.selected_paths;
    clears = clears call e.answer;
    sets = sets_role call;
    makes_lite = sets_lite call;
  }

  -- The theorem: its preconditions are the invariant, and that a local candidate that the call adds is its own base if its kind
  -- requires it.
  abbrev pub RoleTheorem : (H → List ℕ → List ℕ → List ℕ) → (P → CandidateRecord → ℕ → ℕ → Type 0) → Type 0
  RoleTheorem mac answers =
      (old new : AgentRecord H P) (s t : Stream) (call : Call P) (e : Entry)
      → IsSound old → GivesBased call → Step mac answers old s call e new t → RoleEffect (role_state_of old) (role_event_of old call e) (role_state_of new)

-- A newly created agent has the external view of a new agent.
abbrev pub FreshIsNew : Type 0 → Type 0 → Type 0
FreshIsNew H P = (provider : H) (creds : IceCreds) (tie_breaker : ℕ) → IsNewRoleState (role_state_of {P = P} (fresh provider creds tie_breaker))

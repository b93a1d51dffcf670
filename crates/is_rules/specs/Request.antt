-- A Binding request, as the agent serves it (RFC 8445, section 7.3).
use Rattle.std.specs.Prelude.{ℕ, Bool, List, [], Option, unwrap_or, if◌then◌else◌}
use Rattle.std.specs.Option.{option_map_or}
use Rattle.is_stun.specs.Message.{Message, split_username}
use Rattle.is_rules.specs.declared.emitted.Path.{Path}

pub record RequestRecord : Type 0 where
  -- when it was received
  pub time : ℕ
  -- from the sender's address to the local one
  pub path : Path
  pub id : List ℕ
  pub priority : ℕ
  pub use_candidate : Bool
  -- the number of its nomination (NOMINATION)
  pub nomination : Option ℕ
  -- the sender's username fragment
  pub ufrag : List ℕ
  -- the tie-breaker in each role attribute (ICE-CONTROLLING, ICE-CONTROLLED)
  pub ice_controlling : Option ℕ
  pub ice_controlled : Option ℕ

-- What follows the first colon of a request's USERNAME: the sender's username fragment (RFC 8445, section 7.2.2).
abbrev pub sender_ufrag : Message → List ℕ
sender_ufrag m = option_map_or (λ (name : List ℕ × List ℕ). name.1) (split_username m.attributes) []

-- the request that a message is, if it was received at this time on this path
abbrev pub request_in : ℕ → Path → Message → RequestRecord
request_in now path m = record {
  time = now;
  path = path;
  id = m.id;
  priority = unwrap_or m.attributes.priority 0;
  use_candidate = m.attributes.use_candidate;
  nomination = m.attributes.nomination;
  ufrag = sender_ufrag m;
  ice_controlling = m.attributes.ice_controlling;
  ice_controlled = m.attributes.ice_controlled;
}

-- The tie-breaker of a sender that claims the agent's role. The attribute of the other role is ignored (RFC 8445, section
-- 7.3.1.1).
abbrev pub rival_in : Bool → RequestRecord → Option ℕ
rival_in controlling q = if controlling then q.ice_controlling else q.ice_controlled

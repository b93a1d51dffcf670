-- The messages of connectivity checks (RFC 8445, section 7).
use Rattle.std.specs.Prelude.{ℕ, Bool, List, Option, Some, None, codes, if◌then◌else◌}
use Rattle.std.specs.declared.net.socket_addr.SocketAddr.{SocketAddr}
use Rattle.is_stun.specs.declared.header.Class.TheVariants.{Request, Success, Failure}
use Rattle.is_stun.specs.declared.header.Method.TheVariants.{Binding}
use Rattle.is_stun.specs.Message.{Message, no_attributes}
use Rattle.is_stun.specs.Builder.{built}

-- a connectivity check (RFC 8445, section 7.2.2)
abbrev pub binding_request : List ℕ → List ℕ → Bool → ℕ → ℕ → Bool → Message
binding_request username id is_controlling tie_breaker priority use_candidate =
    built Binding Request id (record no_attributes {
      username = Some username;
      ice_controlled = if is_controlling then None else Some tie_breaker;
      ice_controlling = if is_controlling then Some tie_breaker else None;
      priority = Some priority;
      use_candidate = use_candidate;
    })

-- the check with the number of its nomination, if there is one (draft-thatcher-ice-renomination)
abbrev pub with_nomination : Option ℕ → Message → Message
with_nomination number m = record m { attributes = record m.attributes { nomination = number } }

-- the success response to a check, with the source address of the request (RFC 8445, section 7.3.1.2)
abbrev pub binding_reply : List ℕ → SocketAddr → Message
binding_reply id address = built Binding Success id (record no_attributes { xor_mapped_address = Some address })

-- the code of the error response to a check from an agent in the same role (RFC 8445, section 7.3.1.1)
abbrev pub ROLE_CONFLICT : ℕ
ROLE_CONFLICT = 487

-- the error response 487 (Role Conflict) to a check (RFC 8445, section 7.3.1.1)
abbrev pub binding_role_conflict_reply : List ℕ → Message
binding_role_conflict_reply id = built Binding Failure id (record no_attributes { error_code = Some (ROLE_CONFLICT, codes "Role Conflict") })

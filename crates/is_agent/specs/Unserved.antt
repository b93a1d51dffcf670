-- Why an accepted request gets no response: the first reason that applies, in the order in which serving applies its rules.
use Rattle.std.specs.Prelude.{◌≡◌, ℕ, ◌&&◌, Bool, not, is_some, List, codes, MatchOption, Option, Some, None, if◌then◌else◌}
use Rattle.is_candidate.specs.Candidates.{candidate_at}
use Rattle.is_stun.specs.declared.header.Class.TheVariants.{Request}
use Rattle.is_stun.specs.Message.{Message}
use Rattle.is_rules.specs.declared.emitted.Emitted.{Emitted}
use Rattle.is_rules.specs.declared.emitted.Path.{Path}
use Rattle.is_rules.specs.declared.places.RemotePlace.{RemotePlace}
use Rattle.is_rules.specs.declared.places.RemotePlace.TheVariants.{Known, Barred, Unknown, Vacant, Full}
use Rattle.is_rules.specs.declared.roles.Conflict.{Conflict}
use Rattle.is_rules.specs.declared.roles.Conflict.TheVariants.{Absent, Send487, SwitchRole}
use Rattle.is_rules.specs.declared.serving.Places.{Places}
use Rattle.is_rules.specs.Accepting.{IsAcceptedOn}
use Rattle.is_rules.specs.Agent.{AgentRecord}
use Rattle.is_rules.specs.Places.{local_place}
use Rattle.is_rules.specs.Request.{RequestRecord, request_in}
use Rattle.is_rules.specs.Roles.{conflict_of}
use Rattle.is_rules.specs.Serving.{Chooses, HandlesRequest, is_misled}
use Rattle.is_agent.specs.declared.unserved.Unserved.{Unserved}
use Rattle.is_agent.specs.declared.unserved.Unserved.TheVariants.{Early, OtherDestination, UseCandidate, SenderInvalidated, SendersAtLimit, LocalInvalidated}

-- A request gets no response if it needs a new pair of a local candidate that was invalidated.
abbrev pub unserved_without : Option ℕ → Bool → Option Unserved
unserved_without pair discarded = if discarded && not (is_some pair) then Some LocalInvalidated else None

-- why a request gets no response, by where the sender is among the remote candidates
abbrev pub unserved_at : RemotePlace → Option ℕ → Bool → Option Unserved
unserved_at Barred pair discarded = Some SenderInvalidated
unserved_at Full pair discarded = Some SendersAtLimit
unserved_at (Known r) pair discarded = unserved_without pair discarded
unserved_at Unknown pair discarded = unserved_without pair discarded
unserved_at (Vacant r) pair discarded = unserved_without pair discarded

-- A controlling agent drops a request with USE-CANDIDATE.
abbrev pub unserved_as : Bool → RequestRecord → Option Unserved → Option Unserved
unserved_as controlling q later = if is_misled controlling q then Some UseCandidate else later

-- A role conflict comes before the other reasons: a 487 is a response, and USE-CANDIDATE counts in the role after a switch.
abbrev pub unserved_by : Conflict → Bool → RequestRecord → Option Unserved → Option Unserved
unserved_by Absent controlling q later = unserved_as controlling q later
unserved_by Send487 controlling q later = None
unserved_by SwitchRole controlling q later = unserved_as (not controlling) q later

module _ {H P : Type 0} where
  -- why a request gets no response, with this choice of candidates and pair
  abbrev pub unserved_in : AgentRecord H P → RequestRecord → Places → Option Unserved
  unserved_in a q at =
      unserved_by (conflict_of a q) a.controlling q (unserved_at at.remote at.pair (candidate_at a.local at.local).discarded)

  abbrev pub IsUnservedIn : AgentRecord H P → RequestRecord → Option Unserved → Type 0
  IsUnservedIn a q why = (at : Places) × Chooses a q (Some at) × (why ≡ unserved_in a q at)

  -- Without a local candidate at the request's destination there is no choice.
  abbrev pub IsUnservedHere : AgentRecord H P → RequestRecord → Option Unserved → Type 0
  IsUnservedHere a q why = MatchOption (local_place a.local q) (why ≡ Some OtherDestination) (λ _. IsUnservedIn a q why)

  -- Why an accepted request gets no response; None: it gets one, or `handle_packet` fails.
  abbrev pub IsUnserved : AgentRecord H P → RequestRecord → Option Unserved → Type 0
  IsUnserved a q why = MatchOption a.remote_creds (why ≡ Some Early) (λ _. IsUnservedHere a q why)

  -- Each choice gives the same reason. Two choices differ only if the sender is at two live candidates of the greatest priority, and the local
  -- candidate is discarded and has a pair with one of them. Its pairs are removed as it is discarded.
  abbrev pub HasOneReason : AgentRecord H P → RequestRecord → Type 0
  HasOneReason a q = (at other : Places) → Chooses a q (Some at) → Chooses a q (Some other) → unserved_in a q at ≡ unserved_in a q other

  -- a response to the request is issued if and only if there is no such reason
  abbrev pub ReportsResponse : (H → List ℕ → List ℕ → List ℕ) → AgentRecord H P → RequestRecord → Option Unserved → Type 0
  ReportsResponse mac a q why =
      HasOneReason a q → (emitted : Emitted) → (new : AgentRecord H P) → HandlesRequest mac q a emitted new → is_some emitted.issued ≡ not (is_some why)

  abbrev pub IsAcceptedRequest : (H → List ℕ → List ℕ → List ℕ) → AgentRecord H P → Path → Message → Type 0
  IsAcceptedRequest mac a path m = (m.class ≡ Request) × IsAcceptedOn mac a path m

  -- `unserved`, whenever the packet is received
  pub record UnservedIs (mac : H → List ℕ → List ℕ → List ℕ) (a : AgentRecord H P) (path : Path) (m : Message) (why : Option Unserved) : Type 0 where
    pub reason : IsAcceptedRequest mac a path m → (now : ℕ) → IsUnserved a (request_in now path m) why
    pub response : IsAcceptedRequest mac a path m → (now : ℕ) → ReportsResponse mac a (request_in now path m) why
    pub other : ¬ IsAcceptedRequest mac a path m → why ≡ None

-- the texts of the reasons
abbrev pub unserved_text : Unserved → List ℕ
unserved_text Early = codes "request before the peer's credentials are set"
unserved_text OtherDestination = codes "request to an address that no local candidate has"
unserved_text UseCandidate = codes "request with USE-CANDIDATE to a controlling agent"
unserved_text SenderInvalidated = codes "request from an invalidated remote candidate"
unserved_text SendersAtLimit = codes "request from an unknown address while the limit on discovered candidates is reached"
unserved_text LocalInvalidated = codes "request to an invalidated local candidate"

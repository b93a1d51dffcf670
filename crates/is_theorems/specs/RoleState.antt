-- The external view of an agent, as its peer observes it: its role, its early requests, its packets, its pending transactions and
-- its valid paths. Also the effect that one transition may have on this view.
use Rattle.std.specs.Prelude.{◌≡◌, ℕ, ◌&&◌, ◌||◌, Bool, true, false, not, nat_lt, nat_le, List, [], Option, Some, None, ◌⊎◌, if◌then◌else◌}
use Rattle.std.specs.Option.{option_map_or}
use Rattle.is_proto.specs.Lists.{Has}
use Rattle.is_stun.specs.declared.header.Class.{Class}
use Rattle.is_stun.specs.declared.header.Class.TheVariants as class
use Rattle.is_rules.specs.declared.emitted.Path.{Path}
use Rattle.is_rules.specs.Request.{RequestRecord, rival_in}

-- what the bytes of a packet encode, as far as roles and transactions need it
pub record Mail : Type 0 where
  pub class : Class
  pub id : List ℕ
  -- The tie-breaker in each role attribute (ICE-CONTROLLING, ICE-CONTROLLED).
  pub ice_controlling : Option ℕ
  pub ice_controlled : Option ℕ
  -- It is an error response with code 487 (Role Conflict).
  pub is_conflict : Bool

-- A pending transaction: a check that a pair stores, with the role in which it was sent. A response does not remove it.
pub record Kept : Type 0 where
  pub path : Path
  pub id : List ℕ
  pub controlling : Bool

-- a packet that a transition reports as issued
pub record Sent : Type 0 where
  pub path : Path
  pub class : Class
  pub id : List ℕ

pub record RoleState : Type 0 where
  pub controlling : Bool
  pub tie_breaker : ℕ
  pub lite : Bool
  -- A lite agent that keeps its role, whatever its peer claims.
  pub keeps : Bool
  -- The request passes the tests of its USERNAME and its destination.
  pub passes : RequestRecord → Bool
  pub queue : List RequestRecord
  -- The packets that are still to be polled, each as what its bytes encode: none if the bytes are not a STUN message.
  pub packets : List (Option Mail)
  pub kept : List Kept
  pub valid : List Path

-- what one transition did
pub record RoleEvent : Type 0 where
  -- the packet that was received and accepted, and its path
  pub accepts : Option Mail
  pub via : Option Path
  -- the request that was served: the one that was received, or an early request
  pub serves : Option RequestRecord
  pub issued : Option Sent
  pub selected_paths : List Path
  -- Pairs were cleared; the role or the tie-breaker was set; the agent was made lite.
  pub clears : Bool
  pub sets : Bool
  pub makes_lite : Bool

-- ---- role claims

-- The message claims the role with this tie-breaker, and does not claim the other role.
abbrev pub Claims : Option ℕ → Option ℕ → Bool → ℕ → Type 0
Claims controlling controlled role tie = (controlling ≡ (if role then Some tie else None)) × (controlled ≡ (if role then None else Some tie))

abbrev pub sends_487 : RoleState → RequestRecord → Bool
sends_487 s q = option_map_or (λ tie. s.keeps || nat_le tie s.tie_breaker) (rival_in s.controlling q) false

abbrev pub switches_role : RoleState → RequestRecord → Bool
switches_role s q = option_map_or (λ tie. not s.keeps && nat_lt s.tie_breaker tie) (rival_in s.controlling q) false

-- ---- what a transition did

-- The request is the one that was received.
pub record IsCarriedIn (d : RoleEvent) (q : RequestRecord) : Type 0 where
  pub mail : Mail
  pub accepted : d.accepts ≡ Some mail
  pub class : mail.class ≡ class.Request
  pub id : q.id ≡ mail.id
  pub ice_controlling : q.ice_controlling ≡ mail.ice_controlling
  pub ice_controlled : q.ice_controlled ≡ mail.ice_controlled

-- What an outgoing message contains, by its class. `role` is the role after the transition.
abbrev pub Conveys : Class → RoleState → RoleEvent → Mail → Bool → Type 0
-- A check claims the agent's role, which does not change.
Conveys class.Request old d m role = Claims m.ice_controlling m.ice_controlled old.controlling old.tie_breaker × (role ≡ old.controlling)
-- A success response has the transaction ID of the request that was served.
Conveys class.Success old d m role = (q : RequestRecord) × (d.serves ≡ Some q) × (q.id ≡ m.id)
-- A 487 has the transaction ID of the request that was served. This claimed the agent's own role with a tie-breaker that is not greater,
-- or the agent keeps its role. The role does not change.
Conveys class.Failure old d m role = (q : RequestRecord) × (d.serves ≡ Some q) × (q.id ≡ m.id) × (sends_487 old q ≡ true) × (role ≡ old.controlling)
Conveys class.Indication old d m role = ⊥
Conveys class.Unknown old d m role = ⊥

-- The message goes out, and the transition reports it as issued.
pub record IsPosted (old : RoleState) (d : RoleEvent) (m : Mail) (role : Bool) : Type 0 where
  pub path : Path
  pub issued : d.issued ≡ Some record { path = path; class = m.class; id = m.id }
  pub says : Conveys m.class old d m role

-- There is a pending transaction with this ID, sent in this role.
abbrev pub Keeps : RoleState → List ℕ → Bool → Type 0
Keeps s id controlling = (path : Path) × Has s.kept (record { path = path; id = id; controlling = controlling })

-- A success response was received on the reverse path, with the ID of a transaction that was pending on the path.
pub record MeetsSuccess (old : RoleState) (d : RoleEvent) (path : Path) : Type 0 where
  pub mail : Mail
  pub role : Bool
  pub accepted : d.accepts ≡ Some mail
  pub class : mail.class ≡ class.Success
  pub kept : Has old.kept (record { path = path; id = mail.id; controlling = role })
  pub via : Path
  pub came : d.via ≡ Some via
  pub back : (via.source ≡ path.destination) × (via.destination ≡ path.source)

-- The served request claims the agent's role with a greater tie-breaker, so the agent switches its role, unless it keeps it.
abbrev pub SwitchRole : RoleState → RoleEvent → RoleState → Type 0
SwitchRole old d new = (q : RequestRecord) × (d.serves ≡ Some q) × (switches_role old q ≡ true) × (new.controlling ≡ not old.controlling)

-- A 487 was received for a check, and after it the agent has the role that the check was not sent in.
pub record MeetsConflict (old : RoleState) (d : RoleEvent) (new : RoleState) : Type 0 where
  pub mail : Mail
  pub role : Bool
  pub accepted : d.accepts ≡ Some mail
  pub class : mail.class ≡ class.Failure
  pub kept : Keeps old mail.id role
  pub removes_expired : new.controlling ≡ not role

-- ---- what a transition may do

pub record RoleEffect (old : RoleState) (d : RoleEvent) (new : RoleState) : Type 0 where
  pub tie_breaker : d.sets ≡ false → new.tie_breaker ≡ old.tie_breaker
  pub lite : old.lite ≡ false → d.makes_lite ≡ false → new.lite ≡ false
  -- Each packet was there before, or goes out now.
  pub packets : (m : Mail) → Has new.packets (Some m) → Has old.packets (Some m) ⊎ IsPosted old d m new.controlling
  -- Each early request was in the queue before, or was received now. So was a request that is served.
  pub queue : (q : RequestRecord) → Has new.queue q → Has old.queue q ⊎ IsCarriedIn d q
  pub serves : (q : RequestRecord) → d.serves ≡ Some q → Has old.queue q ⊎ IsCarriedIn d q
  -- Each pending transaction was pending on its path before, or its check goes out now in the agent's role, which does not
  -- change.
  pub kept : (k : Kept) → Has new.kept k → Has old.kept k
      ⊎ ((d.issued ≡ Some record { path = k.path; class = class.Request; id = k.id }) × (k.controlling ≡ old.controlling)
      × (new.controlling ≡ old.controlling))
  -- Each valid path was valid before, or its success response is received now. The same holds of each selected path.
  pub valid : old.lite ≡ false → d.makes_lite ≡ false → (path : Path) → Has new.valid path → Has old.valid path ⊎ MeetsSuccess old d path
  pub selected_paths : old.lite ≡ false → d.makes_lite ≡ false → (path : Path) → Has d.selected_paths path → Has old.valid path ⊎ MeetsSuccess old d path
  -- A clear leaves no pending transaction and no valid path, and selects no path.
  pub cleared : d.clears ≡ true → (new.kept ≡ []) × (new.valid ≡ []) × (d.selected_paths ≡ [])
  -- The role does not change, or it switches because of a request or of a 487.
  pub role : d.sets ≡ false → (new.controlling ≡ old.controlling) ⊎ (SwitchRole old d new ⊎ MeetsConflict old d new)
  -- A served request that passes the tests switches the role if it claims the role with a greater tie-breaker and the agent does not
  -- keep its role, and does not otherwise.
  pub settled : (q : RequestRecord) → d.serves ≡ Some q → old.passes q ≡ true
      → new.controlling ≡ (if switches_role old q then not old.controlling else old.controlling)
  -- After each accepted 487 the agent has the role that its check was not sent in, unless it keeps its role.
  pub expired : old.keeps ≡ false → (m : Mail) → d.accepts ≡ Some m → m.class ≡ class.Failure → m.is_conflict ≡ true → MeetsConflict old d new

-- ---- a newly created agent, in either role

pub record IsNewRoleState (s : RoleState) : Type 0 where
  pub lite : s.lite ≡ false
  pub queue : s.queue ≡ []
  pub packets : s.packets ≡ []
  pub kept : s.kept ≡ []
  pub valid : s.valid ≡ []

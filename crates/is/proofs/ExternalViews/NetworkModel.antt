-- The two-agent network model with external views of the agents, and the in-flight packets by their parsed messages.
use Rattle.is_stun.specs.declared.header.Class.TheVariants as class
use Rattle.is.proofs.Common.{[], ◌++◌, ◌<◌, ◌∷◌, ◌≡◌, ◌≢◌, ◌≤◌, ◌⊎◌, A, AllByRecursion, B, Bool, changes, Class, false, Has, IsNewRoleState}
use Rattle.is.proofs.Common.{List, Mail, map, None, Option, other, Path, RequestRecord, RoleEffect, RoleEvent, RoleState, Sent, Side}
use Rattle.is.proofs.Common.{slice_get, Some, true, ℕ}

-- an in-flight packet of the multiset, by the message that its bytes encode
pub record InFlight : Type 0 where
  pub sender : Side
  pub mail : Option Mail

pub record Seen : Type 0 where
  pub a : RoleState
  pub b : RoleState
  pub network : List InFlight

pub record Roles : Type 0 where
  pub a : Bool
  pub b : Bool

-- the message of a packet that was delivered
pub record Moved : Type 0 where
  pub class : Class
  pub id : List ℕ

-- what a log entry records, and the path of the packet that it delivers
pub record Emitted : Type 0 where
  pub side : Option Side
  pub accepted : Bool
  pub via : Option Path
  pub moved : Option Moved
  pub issued : Option Sent
  pub selected_paths : List Path
  pub clear : Bool
  pub roles : Roles

abbrev pub at : Side → Seen → RoleState
at A w = w.a
at B w = w.b

abbrev pub put : Side → RoleState → Seen → Seen
put A s w = record w { a = s }
put B s w = record w { b = s }

abbrev pub roles_of : Seen → Roles
roles_of w = record { a = w.a.controlling; b = w.b.controlling }

abbrev pub role_at : Side → Roles → Bool
role_at A roles = roles.a
role_at B roles = roles.b

-- ---- what happens

-- the packet comes from the multiset, since the other side sent it
pub record IsDelivered (w : Seen) (side : Side) (m : Mail) (e : Emitted) : Type 0 where
  pub in_flight : InFlight
  pub there : Has w.network in_flight
  pub sender : in_flight.sender ≡ other side
  pub mail : in_flight.mail ≡ Some m
  pub accepted : e.accepted ≡ true
  pub moved : e.moved ≡ Some record { class = m.class; id = m.id }

-- a response comes back on the path of a check with its id
pub record IsAwaited (s : RoleState) (d : RoleEvent) (id : List ℕ) : Type 0 where
  pub path : Path
  pub role : Bool
  pub kept : Has s.kept (record { path = path; id = id; controlling = role })
  pub via : Path
  pub came : d.via ≡ Some via
  pub back : (via.source ≡ path.destination) × (via.destination ≡ path.source)

-- the side does something; each packet that it adds to the multiset was in its queue
pub record Moves (w : Seen) (side : Side) (d : RoleEvent) (keeps : Bool) (e : Emitted) (w' : Seen) : Type 0 where
  pub new : RoleState
  pub effect : RoleEffect (at side w) d new
  pub keeps_is : (at side w).keeps ≡ keeps
  pub posted : List InFlight
  pub world : w' ≡ record (put side new w) { network = w.network ++ posted }
  pub from_queue : (l : InFlight) → Has posted l → (l.sender ≡ side) × Has (at side w).packets l.mail
  pub delivered : (m : Mail) → d.accepts ≡ Some m → IsDelivered w side m e
  pub accepts : (x : Moved) → e.accepted ≡ true → e.moved ≡ Some x → (m : Mail) × (d.accepts ≡ Some m) × (m.class ≡ x.class) × (m.id ≡ x.id)
  pub awaited : (m : Mail) → d.accepts ≡ Some m → m.class ≡ class.Success → IsAwaited (at side w) d m.id
  pub not_set : d.sets ≡ false
  pub side_is : e.side ≡ Some side
  pub via_is : e.via ≡ d.via
  pub issued_is : e.issued ≡ d.issued
  pub selected_is : e.selected_paths ≡ d.selected_paths
  pub clear_is : e.clear ≡ d.clears
  pub roles_are : e.roles ≡ roles_of w'

-- nothing happens
pub record Persists (w : Seen) (e : Emitted) (w' : Seen) : Type 0 where
  pub world : w' ≡ w
  pub moved_is : e.moved ≡ None
  pub issued_is : e.issued ≡ None
  pub selected_is : e.selected_paths ≡ []
  pub clear_is : e.clear ≡ false
  pub roles_are : e.roles ≡ roles_of w'

-- what happens: nothing, or a side does something; and whether this is a lite agent that keeps its role
pub data Kind : Type 0 where
  Still : Kind
  Move : Side → RoleEvent → Bool → Kind

pub record Happening : Type 0 where
  pub kind : Kind
  pub emitted : Emitted

abbrev pub Happens : Seen → Kind → Emitted → Seen → Type 0
Happens w Still e w' = Persists w e w'
Happens w (Move side d keeps) e w' = Moves w side d keeps e w'

-- the log, in order, may be that of an execution from the first network model to the last
abbrev pub Run : Seen → List Happening → Seen → Type 0
Run first [] last = last ≡ first
Run first (x ∷ rest) last = (mid : Seen) × Happens first x.kind x.emitted mid × Run mid rest last

abbrev pub emitted_of : List Happening → List Emitted
emitted_of log = map (λ x. x.emitted) log

-- ---- by the numbers of the entries

-- at entry n this side issued a packet of this class and id on the path, with this role after it
pub record Issues (es : List Emitted) (n : ℕ) (side : Side) (class : Class) (id : List ℕ) (path : Path) (role : Bool) : Type 0 where
  pub entry : Emitted
  pub found : slice_get es n ≡ Some entry
  pub side_is : entry.side ≡ Some side
  pub issued : entry.issued ≡ Some record { path = path; class = class; id = id }
  pub role_is : role_at side entry.roles ≡ role

-- at entry n a packet of this class and id was delivered to this side, and accepted
pub record Takes (es : List Emitted) (n : ℕ) (side : Side) (class : Class) (id : List ℕ) : Type 0 where
  pub entry : Emitted
  pub found : slice_get es n ≡ Some entry
  pub side_is : entry.side ≡ Some side
  pub accepted : entry.accepted ≡ true
  pub moved : entry.moved ≡ Some record { class = class; id = id }

-- no clear of this side from entry n on
abbrev pub NoClear : List Emitted → ℕ → Side → Type 0
NoClear es n side = (m : ℕ) (e : Emitted) → n ≤ m → slice_get es m ≡ Some e → e.side ≡ Some side → e.clear ≡ false

-- a check of this side on the path reached the other agent, which answered it, and the response came back; the side
-- had no clear since the check
pub record Trace (es : List Emitted) (side : Side) (path : Path) : Type 0 where
  pub id : List ℕ
  pub checked : ℕ
  pub delivered : ℕ
  pub replied : ℕ
  pub answered : ℕ
  pub role : Bool
  pub reply_path : Path
  pub reply_role : Bool
  pub check : Issues es checked side class.Request id path role
  pub delivery : Takes es delivered (other side) class.Request id
  pub reply : Issues es replied (other side) class.Success id reply_path reply_role
  pub answer : Takes es answered side class.Success id
  pub in_order : (checked < delivered) × (delivered ≤ replied) × (replied < answered)
  pub no_clear : NoClear es checked side

-- a check of this side with the id was sent on the path by which a response came back
pub record Back (es : List Emitted) (side : Side) (id : List ℕ) (by : Option Path) : Type 0 where
  pub number : ℕ
  pub path : Path
  pub role : Bool
  pub check : Issues es number side class.Request id path role
  pub via : Path
  pub came : by ≡ Some via
  pub back : (via.source ≡ path.destination) × (via.destination ≡ path.source)

-- no two checks that were issued have the same id
abbrev pub DistinctChecks : List Emitted → Type 0
DistinctChecks es =
    (i j : ℕ) (id : List ℕ) (p q : Path) (s t : Side) (b c : Bool) → Issues es i s class.Request id p b → Issues es j t class.Request id q c → i ≡ j

-- ---- the preconditions

-- both agents are new, and no two checks have the same id
pub record Start (first : Seen) (es : List Emitted) : Type 0 where
  pub new : (s : Side) → IsNewRoleState (at s first)
  pub empty : first.network ≡ []
  pub distinct : DistinctChecks es

-- so it is, and `greater` has the greater tie-breaker
pub record Preconditions (first : Seen) (greater : Side) (es : List Emitted) : Type 0 where
  pub start : Start first es
  pub tie : (at (other greater) first).tie_breaker < (at greater first).tie_breaker

-- no lite agent that keeps its role does anything
abbrev pub Compares : Kind → Type 0
Compares Still = Unit {0}
Compares (Move side d keeps) = keeps ≡ false

abbrev pub AllCompare : List Happening → Type 0
AllCompare log = AllByRecursion (λ x. Compares x.kind) log

-- the side does not become ICE-lite
abbrev pub StaysFull : Side → Kind → Type 0
StaysFull side Still = Unit {0}
StaysFull side (Move s d keeps) = s ≡ side → d.makes_lite ≡ false

abbrev pub NeverLite : Side → List Happening → Type 0
NeverLite side log = AllByRecursion (λ x. StaysFull side x.kind) log

-- ---- what holds for an execution

abbrev pub roles_along : Side → List Emitted → List Bool
roles_along side es = map (λ e. role_at side e.roles) es

-- the greater's role is the same after every event
abbrev pub KeepsRole : Seen → List Happening → Type 0
KeepsRole first log =
    (greater : Side) → Preconditions first greater (emitted_of log) → AllCompare log
    → AllByRecursion (λ e. role_at greater e.roles ≡ (at greater first).controlling) (emitted_of log)

-- the other's changes in at most one event
abbrev pub SwitchesOnceIn : Seen → List Happening → Type 0
SwitchesOnceIn first log =
    (greater : Side) → Preconditions first greater (emitted_of log) → AllCompare log
    → changes (at (other greater) first).controlling (roles_along (other greater) (emitted_of log)) ≤ 1

-- the side serves a request after the tests of its USERNAME and its destination, or accepts a 487
abbrev pub Meets : Side → Seen → Kind → Type 0
Meets side w Still = ⊥
Meets side w (Move s d keeps) =
    (s ≡ side)
    × (((q : RequestRecord) × (d.serves ≡ Some q) × ((at side w).passes q ≡ true))
    ⊎ ((m : Mail) × (d.accepts ≡ Some m) × (m.class ≡ class.Failure) × (m.is_conflict ≡ true)))

-- an event of the log with the network model before it
pub record Point (first : Seen) (log before : List Happening) (mid : Seen) (x : Happening) (rest : List Happening) : Type 0 where
  pub split : log ≡ before ++ x ∷ rest
  pub after : Seen
  pub last : Seen
  pub led : Run first before mid
  pub happens : Happens mid x.kind x.emitted after
  pub leads : Run after rest last

-- from the event on at which the lesser one met the greater's role, the roles differ
abbrev pub DifferOnceMet : Seen → List Happening → Type 0
DifferOnceMet first log =
    (greater : Side) → Preconditions first greater (emitted_of log) → AllCompare log → (before : List Happening) (mid : Seen) (x : Happening) (rest : List Happening)
    → Point first log before mid x rest → Meets (other greater) mid x.kind → AllByRecursion (λ e. e.roles.a ≢ e.roles.b) (emitted_of (x ∷ rest))

-- each path that a side selected which was never ICE-lite was answered by the other agent
abbrev pub Traced : Seen → List Happening → Type 0
Traced first log =
    (side : Side) → Start first (emitted_of log) → NeverLite side log → (before : List Happening) (mid : Seen) (x : Happening) (rest : List Happening)
    → Point first log before mid x rest → (path : Path) → x.emitted.side ≡ Some side → Has x.emitted.selected_paths path → Trace (emitted_of before ++ x.emitted ∷ []) side path

-- each success response that a side accepted came back on the path of a check with its id
abbrev pub AnswersComeBack : Seen → List Happening → Type 0
AnswersComeBack first log =
    (side : Side) → Start first (emitted_of log) → (before : List Happening) (mid : Seen) (x : Happening) (rest : List Happening)
    → Point first log before mid x rest → (id : List ℕ) → x.emitted.side ≡ Some side → x.emitted.accepted ≡ true
    → x.emitted.moved ≡ Some record { class = class.Success; id = id } → Back (emitted_of before) side id x.emitted.via

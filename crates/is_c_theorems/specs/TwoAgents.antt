-- Two agents of C, one slot each, and any network between them: it loses, delays, repeats and readdresses packets, and adds others that no agent
-- accepts. C makes any calls on both slots, in any order.
use Rattle.std.specs.Prelude.{◌≡◌, ◌≢◌, ℕ, ◌<◌, ◌⊎◌, ◌++◌, Bool, true, false, not, List, [], ◌∷◌, take, Option, Some, None, if◌then◌else◌}
use Rattle.is_proto.specs.Lists.{Has}
use Rattle.is_stun.specs.declared.header.Class.TheVariants as class
use Rattle.is_stun.specs.Message.{Message}
use Rattle.is_stun.specs.Reading.{Reads}
use Rattle.is_rules.specs.declared.credentials.IceCreds.{IceCreds}
use Rattle.is_rules.specs.declared.emitted.Path.{Path}
use Rattle.is_rules.specs.Answers.{is_reverse}
use Rattle.is_c_calls.specs.declared.address.Address.{Address}
use Rattle.is_c_calls.specs.Codes.{OK}
use Rattle.is_c_calls.specs.Held.{HeldRecord}
use Rattle.is_c_calls.specs.Making.{fresh_held}
use Rattle.is_c_calls.specs.Sessions.{Used, Session, is_ok}
use Rattle.is_c_calls.specs.Uses.{Use, SetControlling, SetLite, SetTieBreaker, HandlePacket, HandleTimeout, FixTimes, Does}
use Rattle.is_c_theorems.specs.Chosen.{EachKeeps, keeps_modern}
use Rattle.is_c_theorems.specs.Seen.{Accepts, Gets, Selects}

pub data Side : Type 0 where
  A : Side
  B : Side

abbrev pub other : Side → Side
other A = B
other B = A

-- one call, on the slot of a side
pub record SideCall : Type 0 where
  pub side : Side
  pub used : Used

-- C's calls lead from what both slots hold first to what they hold last, newest call first. What follows a call (`FixTimes`) is one more.
abbrev pub Sessions : (Side → HeldRecord) → List SideCall → (Side → HeldRecord) → Type 0
Sessions first [] last = (side : Side) → last side ≡ first side
Sessions first (x ∷ before) last =
    (mid : Side → HeldRecord) × Sessions first before mid
    × Does x.used.export (mid x.side) x.used.code (last x.side) × (last (other x.side) ≡ mid (other x.side))

-- It holds of one of these calls, and of those before it.
abbrev pub Before : (SideCall → List SideCall → Type 0) → List SideCall → Type 0
Before Is [] = ⊥
Before Is (x ∷ before) = Is x before ⊎ Before Is before

-- ---- the network

-- C got these bytes from `is_ice_poll_transmit` of this side.
abbrev pub Gave : Side → List ℕ → SideCall → List SideCall → Type 0
Gave side bytes x before = (to : Path) × (x.side ≡ side) × Gets x.used to bytes

-- Each packet that an agent accepts was got from the other one before, whatever its addresses now are.
abbrev pub AreCarried : List SideCall → Type 0
AreCarried [] = Unit {0}
AreCarried (x ∷ before) =
    ((now protocol : ℕ) (source destination : Address) (bytes : List ℕ)
    → x.used.export ≡ HandlePacket now protocol source destination bytes → x.used.code ≡ OK → Before (Gave (other x.side) bytes) before)
    × AreCarried before

-- the random bytes that `is_ice_handle_timeout` takes as the transaction ID of a check, if it returns OK
abbrev pub id_in : Use → Option (List ℕ)
id_in (HandleTimeout now random) = Some (take 12 random)
id_in _ = None

abbrev pub id_of : Used → Option (List ℕ)
id_of u = if is_ok u.code then id_in u.export else None

-- No two such calls, on either slot, get the same ones.
abbrev pub HaveFreshIds : List SideCall → Type 0
HaveFreshIds [] = Unit {0}
HaveFreshIds (x ∷ before) = ((y : SideCall) (id : List ℕ) → Has before y → id_of x.used ≡ Some id → id_of y.used ≡ Some id → ⊥) × HaveFreshIds before

-- ---- what C does

-- a call that sets the role, and what follows it
abbrev pub sets_role : Use → Bool
sets_role (SetControlling role) = true
sets_role (FixTimes soon) = true
sets_role _ = false

-- C made the agent with this tie-breaker, and then may have set its role.
abbrev pub Begins : ℕ → HeldRecord → Type 0
Begins tie_breaker held = (creds : IceCreds) × (uses : List Used) × Session (fresh_held creds tie_breaker) uses held × EachKeeps sets_role uses

-- C leaves the role and the tie-breaker, and never makes the agent lite.
abbrev pub keeps_role : Use → Bool
keeps_role (SetControlling role) = false
keeps_role (SetTieBreaker tie_breaker) = false
keeps_role (SetLite lite) = not lite
keeps_role _ = true

-- Two new agents, of which `greater` has the greater tie-breaker, C's calls on them, and the network between them.
pub record IsFair (first : Side → HeldRecord) (greater : Side) (made : List SideCall) : Type 0 where
  pub tie_breaker : Side → ℕ
  pub begins : (side : Side) → Begins (tie_breaker side) (first side)
  pub tie : tie_breaker (other greater) < tie_breaker greater
  pub keeps : (x : SideCall) → Has made x → keeps_role x.used.export ≡ true
  pub carried : AreCarried made
  pub fresh : HaveFreshIds made

-- ---- roles (RFC 8445, section 7.3.1.1)

-- the role of a side, as `is_ice_status` says
abbrev pub role_at : Side → (Side → HeldRecord) → Bool
role_at side all_held = (all_held side).agent.controlling

-- After any such calls the agent with the greater tie-breaker has the role in which it began.
abbrev pub GreaterKeepsRole : Type 0
GreaterKeepsRole =
    (first last : Side → HeldRecord) (greater : Side) (made : List SideCall) → IsFair first greater made → Sessions first made last
    → role_at greater last ≡ role_at greater first

-- Once the other one has another role than that in which it began, it keeps it. So its role changes once at most.
abbrev pub LesserSwitchesOnce : Type 0
LesserSwitchesOnce =
    (first mid last : Side → HeldRecord) (greater : Side) (before later : List SideCall) → IsFair first greater (later ++ before)
    → Sessions first before mid → Sessions mid later last
    → role_at (other greater) mid ≢ role_at (other greater) first → role_at (other greater) last ≡ role_at (other greater) mid

-- Once their roles are different, they stay so.
abbrev pub RolesStayOpposite : Type 0
RolesStayOpposite =
    (first mid last : Side → HeldRecord) (greater : Side) (before later : List SideCall) → IsFair first greater (later ++ before)
    → Sessions first before mid → Sessions mid later last
    → role_at A mid ≢ role_at B mid → role_at A last ≢ role_at B last

-- ---- what one agent selects, the other one answered (RFC 8445, section 7.2.5.3)

-- C got this check from the side, to be sent on the path.
abbrev pub GivesCheck : Side → Path → Message → SideCall → List SideCall → Type 0
GivesCheck side path check x before = (bytes : List ℕ) × (x.side ≡ side) × Gets x.used path bytes × Reads bytes check

-- C passed the other side a check with this ID, and got OK. Before that it had got the check from the side, to be sent on the path.
abbrev pub TakesCheck : Side → Path → List ℕ → SideCall → List SideCall → Type 0
TakesCheck side path id x before =
    (via : Path) × (check : Message) × (x.side ≡ other side) × Accepts x.used via check × (check.class ≡ class.Request) × (check.id ≡ id)
    × Before (GivesCheck side path check) before

-- C got this response from the other side, after that.
abbrev pub GivesAnswer : Side → Path → Message → SideCall → List SideCall → Type 0
GivesAnswer side path answer x before =
    (to : Path) × (bytes : List ℕ) × (x.side ≡ other side) × Gets x.used to bytes × Reads bytes answer × Before (TakesCheck side path answer.id) before

-- After that, C passed it to the side as a success response that came back on the path, and got OK.
abbrev pub TakesAnswer : Side → Path → SideCall → List SideCall → Type 0
TakesAnswer side path x before =
    (back : Path) × (answer : Message) × (x.side ≡ side) × Accepts x.used back answer × (answer.class ≡ class.Success) × (is_reverse back path ≡ true)
    × Before (GivesAnswer side path answer) before

-- Each path that C gets by a `NominatedSend` was so answered, from a side that always has the profile `Modern` and is never lite. The other one may
-- be lite, and both may have any roles.
abbrev pub SelectedAreTraced : Type 0
SelectedAreTraced =
    (first last : Side → HeldRecord) (tie_breaker : Side → ℕ) (side : Side) (made : List SideCall) (used : Used) (held : HeldRecord) (path : Path)
    → ((z : Side) → Begins (tie_breaker z) (first z)) → AreCarried made → HaveFreshIds made → Sessions first made last
    → ((x : SideCall) → Has made x → x.side ≡ side → keeps_modern x.used.export ≡ true)
    → Does used.export (last side) used.code held → Selects used path → Before (TakesAnswer side path) made

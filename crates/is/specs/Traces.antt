-- The causal chain of each selected path, through the log to the other agent and back.
use Rattle.std.specs.Prelude.{◌≡◌, ℕ, suc, ◌<◌, ◌≤◌, true, false, List, Option, Some, ◌⊎◌, MatchOption, slice_get}
use Rattle.is_stun.specs.declared.header.Class.{Class}
use Rattle.is_stun.specs.declared.header.Class.TheVariants as class
use Rattle.is_stun.specs.declared.trans_id.TransId.{TransId}
use Rattle.is_rules.specs.declared.emitted.Path.{Path}
use Rattle.is.specs.declared.calls.Answer.TheVariants as answer
use Rattle.is.specs.declared.world_events.Side.{Side}
use Rattle.is.specs.declared.traces.Trace.{Trace}
use Rattle.is.specs.declared.world_events.WorldEntry.{WorldEntry}
use Rattle.is.specs.World as world
use Rattle.is.specs.World.{WorldRecord, LoggedEvent, Event, other}
use Rattle.is.specs.WorldRoles.{IsNewWorld, IsNeverLite}

-- ---- what an entry records

-- The side issued the packet.
abbrev pub Issues : Side → Path → Class → TransId → WorldEntry → Type 0
Issues side path class id e = (e.side ≡ Some side) × (e.issued ≡ Some record { path = path; class = class; id = id })

-- A message of this class and ID was delivered to the side, and accepted.
abbrev pub HandlesMessage : Side → Class → TransId → WorldEntry → Type 0
HandlesMessage side class id e = (e.side ≡ Some side) × (e.answer ≡ answer.Flag true) × (e.moved ≡ Some (class, id))

-- The side selected the path, the one at this index of the entry's paths.
abbrev pub SelectsPathAt : Side → Path → ℕ → WorldEntry → Type 0
SelectsPathAt side path place e = (e.side ≡ Some side) × (slice_get e.announced place ≡ Some (Some path))

-- The entry with this number has the property.
abbrev pub IsAt : List WorldEntry → ℕ → (WorldEntry → Type 0) → Type 0
IsAt es n Is = (e : WorldEntry) × (slice_get es n ≡ Some e) × Is e

-- No entry of these is a clear of the side.
abbrev pub IsUncleared : List WorldEntry → Side → ℕ → ℕ → Type 0
IsUncleared es side first end = (n : ℕ) (e : WorldEntry) → first ≤ n → n < end → slice_get es n ≡ Some e → e.side ≡ Some side → e.clear ≡ false

-- ---- causal chains

-- The check with this ID, which the side had sent, reached the other agent. That agent issued a success response, and the
-- response was received and accepted; all of this before the entry `end`.
pub record HasAnswer (es : List WorldEntry) (side : Side) (id : TransId) (end : ℕ) (t : Trace) : Type 0 where
  pub delivery : IsAt es t.delivered (HandlesMessage (other side) class.Request id)
  pub reply : IsAt es t.replied (λ e. (reply_path : Path) × Issues (other side) reply_path class.Success id e)
  pub answer : IsAt es t.answered (HandlesMessage side class.Success id)
  pub in_order : (t.checked < t.delivered) × (t.delivered ≤ t.replied) × (t.replied < t.answered) × (t.answered < end)

-- The side sent a check on the path, which got such a response, and the side did not clear its pairs since then.
pub record IsTrace (es : List WorldEntry) (side : Side) (path : Path) (end : ℕ) (t : Trace) : Type 0 where
  pub id : TransId
  pub check : IsAt es t.checked (Issues side path class.Request id)
  pub answered : HasAnswer es side id end t
  pub uncleared : IsUncleared es side t.checked end

-- in order of `checked`, then `delivered`, `replied`, `answered`
abbrev pub IsNoLater : Trace → Trace → Type 0
IsNoLater t u =
    (t.checked < u.checked) ⊎ ((t.checked ≡ u.checked)
    × ((t.delivered < u.delivered) ⊎ ((t.delivered ≡ u.delivered)
    × ((t.replied < u.replied) ⊎ ((t.replied ≡ u.replied)
    × (t.answered ≤ u.answered))))))

-- a causal chain of the path that the entry selected at this index, up to that entry
abbrev pub IsTraceOf : List WorldEntry → ℕ → ℕ → Trace → Type 0
IsTraceOf es n place t = (side : Side) × (path : Path) × IsAt es n (SelectsPathAt side path place) × IsTrace es side path (suc n) t

-- The first causal chain; none only if there is none.
abbrev pub IsFirstTrace : List WorldEntry → ℕ → ℕ → Option Trace → Type 0
IsFirstTrace es n place result =
    MatchOption result ((t : Trace) → ¬ IsTraceOf es n place t)
    (λ first. IsTraceOf es n place first × ((t : Trace) → IsTraceOf es n place t → IsNoLater first t))

-- ---- the theorem

-- The event is a delivery from the path's remote address to its base.
abbrev pub ComesBack : {P : Type 0} → Path → Event P → Type 0
ComesBack path (world.Deliver packet now via) = (via.source ≡ path.destination) × (via.destination ≡ path.source)
ComesBack path _ = ⊥

-- If a side is never lite, each path that it selected has a causal chain, and in each such chain the response was received on the
-- reverse path. The other side may be lite, and have any role and tie-breaker.
abbrev pub SelectedAreTraced : {H P : Type 0} → WorldRecord H P → List (LoggedEvent P) → List WorldEntry → Type 0
SelectedAreTraced first log es =
    (side : Side) → IsNewWorld first log → IsNeverLite side log → (n place : ℕ) (path : Path) → IsAt es n (SelectsPathAt side path place)
    → ((t : Trace) × IsTrace es side path (suc n) t)
    × ((t : Trace) → IsTrace es side path (suc n) t → (x : LoggedEvent _) × (slice_get log t.answered ≡ Some x) × ComesBack path x.event)

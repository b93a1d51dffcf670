-- The log of an execution, newest entry first, and its properties: which paths were answered, which the peer nominated, and which
-- responses were sent. Nothing here names an abstract state.
use Rattle.std.specs.Prelude.{◌≡◌, ℕ, ◌⊎◌, ◌&&◌, Bool, true, false, List, [], ◌∷◌, ◌++◌, Option, Some, None, if◌then◌else◌}
use Rattle.std.specs.Option.{option_or}
use Rattle.is_stun.specs.declared.header.Class.TheVariants as class
use Rattle.is_stun.specs.declared.header.Method.TheVariants.{Binding}
use Rattle.is_stun.specs.Integrity.{IsSignedBy}
use Rattle.is_stun.specs.Message.{Message}
use Rattle.is_stun.specs.Timing.{is_modern_profile}
use Rattle.is_rules.specs.declared.credentials.IceCreds.{IceCreds}
use Rattle.is_rules.specs.declared.emitted.Path.{Path}
use Rattle.is_rules.specs.Steps.{Entry}
use Rattle.is_rules.specs.Emitted.{issued_as, reversed}
use Rattle.is_rules.specs.Answers.{is_reverse}
use Rattle.is_rules.specs.Steps.{Call, SetRenomination, SetProfile}
use Rattle.is_rules.specs.Brought.{Brings}
use Rattle.is_rules.specs.Request.{request_in}
use Rattle.is_rules.specs.Serving.{as_taken}
use Rattle.is_rules.specs.Owed.{Transaction, request_of, reply_of}
use Rattle.is_rules.specs.Effects.{lite_set_by, remote_after, clears, last_of}

-- a log entry: the call, its recorded result, and the number of the entry
pub record Logged (P : Type 0) : Type 0 where
  pub number : ℕ
  pub call : Call P
  pub entry : Entry

-- ---- what the log says

abbrev pub clears_at : {P : Type 0} → Logged P → Bool
clears_at x = clears x.call x.entry.answer

-- the remote credentials that the log set last
abbrev pub remote_of : {P : Type 0} → List (Logged P) → Option IceCreds
remote_of [] = None
remote_of (x ∷ before) = remote_after x.call x.entry.answer (remote_of before)

-- The agent is never set to lite.
abbrev pub NeverLite : {P : Type 0} → List (Logged P) → Type 0
NeverLite [] = Unit {0}
NeverLite (x ∷ before) = (lite_set_by x.call false ≡ false) × NeverLite before

-- renomination, and the profile `Modern`, as the log set them last; a newly created agent has neither
abbrev pub numbering_set_by : {P : Type 0} → Call P → Bool × Bool → Bool × Bool
numbering_set_by (SetRenomination renominates) old = (renominates, old.1)
numbering_set_by (SetProfile profile) old = (old.0, is_modern_profile profile)
numbering_set_by _ old = old

abbrev pub numbering_of : {P : Type 0} → List (Logged P) → Bool × Bool
numbering_of [] = (false, false)
numbering_of (x ∷ before) = numbering_set_by x.call (numbering_of before)

-- With both, nominations have numbers (NOMINATION).
abbrev pub has_numbers : {P : Type 0} → List (Logged P) → Bool
has_numbers log = (numbering_of log).0 && (numbering_of log).1

-- A Binding request with this ID was sent on the path since the last clear.
abbrev pub IsSent : {P : Type 0} → List (Logged P) → Path → List ℕ → Type 0
IsSent [] path id = ⊥
IsSent (x ∷ before) path id =
    (x.entry.emitted.issued ≡ Some (issued_as path class.Request id)) ⊎ ((clears_at x ≡ false) × IsSent before path id)

-- the path that was selected last since the last clear
abbrev pub last_selected : {P : Type 0} → List (Logged P) → Option Path
last_selected [] = None
last_selected (x ∷ before) = option_or (last_of x.entry.emitted.selected_paths) (if clears_at x then None else last_selected before)

-- The transactions of the accepted Binding requests of a log, and those of its responses.
abbrev pub requests : {P : Type 0} → List (Logged P) → List Transaction
requests [] = []
requests (x ∷ before) = request_of x.call x.entry.answer ++ requests before

abbrev pub replies : {P : Type 0} → List (Logged P) → List Transaction
replies [] = []
replies (x ∷ before) = reply_of x.entry.emitted.issued ++ replies before

-- ---- answered paths, and paths that the peer nominated

module _ {H P : Type 0} (mac : H → List ℕ → List ℕ → List ℕ) (provider : H) where
  -- This entry accepted a Binding success response. It was signed with the remote password of that time, and has the ID of a
  -- check that was sent on the path since the last clear. It was received on the reverse path.
  abbrev pub AnswersAt : Logged P → List (Logged P) → Path → Type 0
  AnswersAt x before path =
      (at : ℕ) × (by : Path) × (m : Message) × (peer : IceCreds)
      × Brings x.call x.entry at by m × (m.method ≡ Binding) × (m.class ≡ class.Success) × (remote_of before ≡ Some peer)
      × IsSignedBy (mac provider) m peer.pass × IsSent before path m.id × (is_reverse by path ≡ true)

  -- An entry of the log accepted a success response to a check on the path (`AnswersAt`), and no later entry is a clear.
  abbrev pub Answered : List (Logged P) → Path → Type 0
  Answered [] path = ⊥
  Answered (x ∷ before) path = AnswersAt x before path ⊎ ((clears_at x ≡ false) × Answered before path)

  -- The path, which this entry selects, is answered at this entry or before it.
  abbrev pub IsAnsweredBy : Logged P → List (Logged P) → Path → Type 0
  IsAnsweredBy x before path = AnswersAt x before path ⊎ Answered before path

-- This entry accepted a Binding request that nominates its pair: by USE-CANDIDATE, or, if nominations have numbers, by a NOMINATION above 0,
-- and by USE-CANDIDATE only without NOMINATION. It was received on the reverse path.
abbrev pub AsksAt : {P : Type 0} → Bool → Logged P → Path → Type 0
AsksAt numbered x path =
    (at : ℕ) × (by : Path) × (m : Message) × Brings x.call x.entry at by m × (m.method ≡ Binding) × (m.class ≡ class.Request)
    × ((as_taken numbered (request_in at by m)).use_candidate ≡ true) × (reversed by ≡ path)

-- An entry of the log did so.
abbrev pub AskedBy : {P : Type 0} → Bool → List (Logged P) → Path → Type 0
AskedBy numbered [] path = ⊥
AskedBy numbered (x ∷ before) path = AsksAt numbered x path ⊎ AskedBy numbered before path

-- The peer nominated the path: at some call one of its requests, accepted by then, nominates the path as the settings before this call take
-- requests. With the profile `Original`, or without renomination, that is a request with USE-CANDIDATE.
abbrev pub NominatedByPeer : {P : Type 0} → List (Logged P) → Path → Type 0
NominatedByPeer [] path = ⊥
NominatedByPeer (x ∷ before) path = AskedBy (has_numbers before) (x ∷ before) path ⊎ NominatedByPeer before path

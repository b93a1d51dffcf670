-- The effect of a transition on each part of the abstract state: the lemmas on which the theorems of executions and of two agents
-- rest.
use Rattle.std.specs.Prelude.{◌≡◌, ℕ, ◌<◌, ◌≤◌, Bool, true, false, List, [], ◌∷◌, Option, Some, None, ◌⊎◌, if◌then◌else◌}
use Rattle.std.specs.Option.{option_or}
use Rattle.rand_core.specs.Stream.{Stream}
use Rattle.is_proto.specs.Lists.{Has}
use Rattle.is_proto.specs.Packets.{Packet}
use Rattle.is_candidate.specs.Candidates.{CandidateRecord}
use Rattle.is_pair.specs.Pairs.{PairRecord, is_valid, is_nominated}
use Rattle.is_stun.specs.declared.header.Class.TheVariants as class
use Rattle.is_stun.specs.Message.{Message}
use Rattle.is_stun.specs.Reading.{Reads}
use Rattle.is_stun.specs.Timing.{is_modern, is_modern_profile}
use Rattle.is_rules.specs.declared.credentials.IceCreds.{IceCreds}
use Rattle.is_rules.specs.declared.emitted.Issued.{Issued}
use Rattle.is_rules.specs.declared.emitted.Path.{Path}
use Rattle.is_rules.specs.Request.{RequestRecord}
use Rattle.is_rules.specs.Steps.{Answer, Entry, is_done, is_rejection, is_not_accepted}
use Rattle.is_rules.specs.Emitted.{nothing_emitted, issued_as, reversed}
use Rattle.is_rules.specs.Agent.{AgentRecord}
use Rattle.is_rules.specs.Sending.{path_of}
use Rattle.is_rules.specs.Roles.{conflict_of, keeps_role}
use Rattle.is_rules.specs.Accepting.{IsAcceptedOn}
use Rattle.is_rules.specs.Answers.{is_role_conflict}
use Rattle.is_rules.specs.Steps.{Call, SetControlTieBreaker, SetIceLite, SetProfile, SetLocalCredentials, SetRemoteCredentials, RestartIce}
use Rattle.is_rules.specs.Steps.{RecreateCandidatePairs, ReceivePacket, Step}
use Rattle.is_rules.specs.Sound.{IsSound, GivesBased}
use Rattle.is_rules.specs.Serving.{nominates}
use Rattle.is_rules.specs.Brought.{role_once, Brings, IsBrought, IsKept, IsValidOn, IsNominatedOn, Continues, IsServing, IsNominatedByPeer}
use Rattle.is_rules.specs.Brought.{IsServedPastTests, IsAnswered, SwitchesRoleFor, IsRejectedBy, IsRoleSet}
use Rattle.is_rules.specs.Owed.{Owes}
use Rattle.is_rules.specs.Points.{IsNominationPoint, IsTopSelected, AnswersAreValid}
use Rattle.is_rules.specs.Issuing.{via_out, QueuesPackets, Waits, IsIssued}

-- ---- what a call that returns Ok sets

abbrev pub tie_set_by : {P : Type 0} → Call P → ℕ → ℕ
tie_set_by (SetControlTieBreaker tie_breaker) old = tie_breaker
tie_set_by _ old = old

abbrev pub lite_set_by : {P : Type 0} → Call P → Bool → Bool
lite_set_by (SetIceLite lite) old = lite
lite_set_by _ old = old

-- the rule by which a lite agent keeps its role
abbrev pub keeping_set_by : {P : Type 0} → Call P → Bool → Bool
keeping_set_by (SetProfile profile) old = is_modern_profile profile
keeping_set_by _ old = old

abbrev pub remote_set_by : {P : Type 0} → Call P → Option IceCreds → Option IceCreds
remote_set_by (SetRemoteCredentials creds) remote = Some creds
remote_set_by (RestartIce creds keep) remote = None
remote_set_by _ remote = remote

abbrev pub remote_after : {P : Type 0} → Call P → Answer → Option IceCreds → Option IceCreds
remote_after call answer remote = if is_done answer then remote_set_by call remote else remote

abbrev pub local_set_by : {P : Type 0} → Call P → IceCreds → IceCreds
local_set_by (SetLocalCredentials creds) local = creds
local_set_by (RestartIce creds keep) local = creds
local_set_by _ local = local

abbrev pub local_after : {P : Type 0} → Call P → Answer → IceCreds → IceCreds
local_after call answer local = if is_done answer then local_set_by call local else local

-- The call clears the pairs if it returns Ok: an ICE restart, or `recreate_candidate_pairs`.
abbrev pub is_clearing : {P : Type 0} → Call P → Bool
is_clearing (RestartIce creds keep) = true
is_clearing RecreateCandidatePairs = true
is_clearing _ = false

abbrev pub clears : {P : Type 0} → Call P → Answer → Bool
clears call answer = if is_clearing call then is_done answer else false

-- the path that was selected last
abbrev pub last_of : List (Option Path) → Option Path
last_of [] = None
last_of (path ∷ paths) = option_or (last_of paths) path

module _ {H P : Type 0} where
  module _ (mac : H → List ℕ → List ℕ → List ℕ) where
    -- The bytes that were received in the call do not encode a message that the agent accepts.
    abbrev pub IsNotAccepted : AgentRecord H P → Call P → Type 0
    IsNotAccepted old (ReceivePacket now path bytes) = ¬ ((m : Message) × Reads bytes m × IsAcceptedOn mac old path m)
    IsNotAccepted old _ = ⊥

    -- ---- paths: the basis of the theorems of one agent. Fields with a precondition on lite may fail for a lite agent

    pub record PathEffect (old : AgentRecord H P) (call : Call P) (e : Entry) (new : AgentRecord H P) : Type 0 where
      pub provider : new.provider ≡ old.provider
      pub lite : new.lite ≡ lite_set_by call old.lite
      pub keeping : is_modern new.timing ≡ keeping_set_by call (is_modern old.timing)
      pub remote_creds : new.remote_creds ≡ remote_after call e.answer old.remote_creds
      -- A message in `Brings` was accepted. So it is a Binding message, and signed.
      pub accepted : (at : ℕ) (by : Path) (m : Message) → Brings call e at by m → IsAcceptedOn mac old by m
      -- Each early request was in the queue before, or was received now. The responses and the early requests after the
      -- transition are, as multisets, among the early requests before it and the requests received now.
      pub queue : (q : RequestRecord) → Has new.queue q → Has old.queue q ⊎ IsBrought call e q
      pub owed : Owes old call e new
      -- A request that is served was an early request, or was received now.
      pub serves : (q : RequestRecord) → IsServing old call e q → Has old.queue q ⊎ IsBrought call e q
      -- Each pending transaction was pending on its path before, or its check was sent now in the agent's role, which does not
      -- change.
      pub checks : (path : Path) (id : List ℕ) (controlling : Bool) → IsKept new path id controlling
          → IsKept old path id controlling
          ⊎ ((e.emitted.issued ≡ Some (issued_as path class.Request id)) × (controlling ≡ old.controlling) × (new.controlling ≡ old.controlling))
      -- Each valid path was valid before, or its success response is received now.
      pub valid : old.lite ≡ false → (path : Path) → IsValidOn new path → IsValidOn old path ⊎ IsAnswered mac old call e path
      -- While the agent is controlled, each nominated path was nominated before, or the peer nominates it now.
      pub nominated : old.lite ≡ false → old.controlling ≡ false → new.controlling ≡ false
          → (path : Path) → IsNominatedOn new path → IsNominatedOn old path ⊎ IsNominatedByPeer old call e path
      -- A success response replies to the request that is served. If that nominates and the agent is controlled, the path is
      -- nominated.
      pub replied : (issued : Issued) → e.emitted.issued ≡ Some issued → issued.class ≡ class.Success
          → (q : RequestRecord) × IsServing old call e q × (issued ≡ issued_as (reversed q.path) class.Success q.id)
          × (nominates old q ≡ true → new.controlling ≡ false → IsNominatedOn new (reversed q.path))
      -- Each selected path was valid before, or its success response is received now. While the agent is controlled, it was
      -- nominated before, or the peer nominates it now.
      pub selected_paths : old.lite ≡ false → (path : Path) → Has e.emitted.selected_paths (Some path)
          → IsValidOn old path ⊎ IsAnswered mac old call e path
      pub selected_asked : old.lite ≡ false → old.controlling ≡ false → new.controlling ≡ false
          → (path : Path) → Has e.emitted.selected_paths (Some path) → IsNominatedOn old path ⊎ IsNominatedByPeer old call e path
      -- The selected number does not change if no path is selected. Otherwise it is that of the last selected path, and its pair,
      -- if it still exists, is valid and nominated.
      pub number_stays : last_of e.emitted.selected_paths ≡ None → new.selected_pair ≡ old.selected_pair
      pub number_names : (path : Path) → last_of e.emitted.selected_paths ≡ Some path
          → (p : PairRecord) → Has new.pairs p → new.selected_pair ≡ Some p.number
          → (path_of new p ≡ path) × (is_valid p ≡ true) × (is_nominated p ≡ true)
      -- A clear emits nothing. All pairs after it are new: without pending transactions, not valid and not nominated.
      pub cleared : clears call e.answer ≡ true → e.emitted ≡ nothing_emitted
      pub cleared_pairs : clears call e.answer ≡ true → (p : PairRecord) → Has new.pairs p
          → (old.next_number ≤ p.number) × (is_valid p ≡ false) × (is_nominated p ≡ false) × (p.checks ≡ [])
      -- Numbers increase, and no number is used twice. A pair keeps its path, its validity and its nomination.
      pub counter : old.next_number ≤ new.next_number
      pub numbers : (p : PairRecord) → Has new.pairs p
          → Continues old new p ⊎ ((old.next_number ≤ p.number) × (p.number < new.next_number))
      -- The pair that records a success response is valid. If nomination is evaluated at the end, the selected pair is one of the
      -- greatest.
      pub taken : AnswersAreValid call e new
      pub points : IsNominationPoint old call e → IsTopSelected new

    -- ---- packets and roles: the basis of the theorems of two agents

    pub record TradeEffect (old : AgentRecord H P) (call : Call P) (e : Entry) (new : AgentRecord H P) : Type 0 where
      pub tie_breaker : new.tie_breaker ≡ tie_set_by call old.tie_breaker
      pub local_creds : new.local_creds ≡ local_after call e.answer old.local_creds
      -- A call that fails changes nothing and emits nothing. Nor do bytes that are not accepted.
      pub rejected : is_rejection e.answer ≡ true → (new ≡ old) × (e.emitted ≡ nothing_emitted)
      pub not_accepted : IsNotAccepted old call → (new ≡ old) × (e.emitted ≡ nothing_emitted) × (is_not_accepted e.answer ≡ true)
      -- Each packet was in the queue before, or is issued now. What is reported as issued is in the queue.
      pub packets : (packet : Packet) → Has new.packets packet → Has old.packets packet ⊎ IsIssued mac old call e packet new.controlling
      pub issued : (issued : Issued) → e.emitted.issued ≡ Some issued
          → (packet : Packet) × Has new.packets packet × (via_out packet ≡ issued.path) × IsIssued mac old call e packet new.controlling
      pub sends : QueuesPackets call e old.packets new.packets
      pub waits : Waits old call e new
      -- The role does not change, or it switches because of a request or of a 487, or the user sets it.
      pub role : (new.controlling ≡ old.controlling)
          ⊎ (SwitchesRoleFor old call e new ⊎ (IsRejectedBy old call e new ⊎ IsRoleSet call new.controlling))
      -- A lite agent that keeps its role changes it at no request and at no response: only the user sets it.
      pub keeps : keeps_role old ≡ true → (new.controlling ≡ old.controlling) ⊎ IsRoleSet call new.controlling
      -- A served request that passes the tests determines the role (`role_once`). After an accepted 487 any other agent has the role
      -- that its check was not sent in.
      pub settled : (q : RequestRecord) → IsServing old call e q → IsServedPastTests old q
          → new.controlling ≡ role_once (conflict_of old q) old.controlling
      pub expired : keeps_role old ≡ false → (at : ℕ) (by : Path) (m : Message) → Brings call e at by m → m.class ≡ class.Failure
          → is_role_conflict m ≡ true → IsRejectedBy old call e new

    -- the lemmas that the theorems use
    abbrev pub PathTheorem : (P → CandidateRecord → ℕ → ℕ → Type 0) → Type 0
    PathTheorem answers =
        (old new : AgentRecord H P) (s t : Stream) (call : Call P) (e : Entry)
        → IsSound old → GivesBased call → Step mac answers old s call e new t → PathEffect old call e new × IsSound new

    -- Each transition from a state that satisfies the invariant has the effect `TradeEffect`.
    abbrev pub TradeTheorem : (P → CandidateRecord → ℕ → ℕ → Type 0) → Type 0
    TradeTheorem answers =
        (old new : AgentRecord H P) (s t : Stream) (call : Call P) (e : Entry)
        → IsSound old → GivesBased call → Step mac answers old s call e new t → TradeEffect old call e new

    -- A call that fails leaves the state and the random stream unchanged.
    abbrev pub RejectionKeeps : (P → CandidateRecord → ℕ → ℕ → Type 0) → Type 0
    RejectionKeeps answers =
        (old new : AgentRecord H P) (s t : Stream) (call : Call P) (e : Entry)
        → Step mac answers old s call e new t → is_rejection e.answer ≡ true → (new ≡ old) × (t ≡ s)

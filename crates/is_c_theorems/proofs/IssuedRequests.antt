-- Only a `handle_timeout` call issues a check, and its transaction ID is the next twelve random bytes.
use Rattle.is_stun.specs.declared.header.Class.TheVariants as class
use Rattle.is_rules.specs.declared.roles.Conflict.{Conflict}
use Rattle.is_rules.specs.Accepting.{HandlesPacket, Takes}
use Rattle.is_rules.specs.Checking.{MayCheck, ChecksTop, all_scheduled}
use Rattle.is_rules.specs.Forming.{formed, with_pair}
use Rattle.is_rules.specs.declared.places.RemotePlace.{RemotePlace}
use Rattle.is_rules.specs.declared.places.RemotePlace.TheVariants.{Known, Barred, Unknown, Vacant, Full}
use Rattle.is_rules.specs.Places.{local_place}
use Rattle.is_rules.specs.Queue.{request_at}
use Rattle.is_rules.specs.Serving.{is_for_other_peer, is_misled, request_counted, with_sender, with_sender_at, Serves}
use Rattle.is_rules.specs.Steps as agent
use Rattle.is_rules.proofs.ServedRequests.RulesInTurn.{in_turn, AddsUnknownSender, CountsAndServes, FindsSender, Joins, RecordsAndResponds}
use Rattle.is_rules.proofs.ServedRequests.RulesInTurn.{ResolvesRoleConflictBy}
use Rattle.is_c_theorems.proofs.Common.{[], ◌==◌, ◌∙◌, ◌≡◌, Absent, AgentRecord, ap, Bool, Call, candidate_at, CandidateRecord, Class}
use Rattle.is_c_theorems.proofs.Common.{conflict_of, Emitted, Entry, Err, false, fill_bytes, HandlesFailure, IceCreds, IceError, inl, inr}
use Rattle.is_c_theorems.proofs.Common.{is_role_conflict, Issued, issued_as, List, MatchBool, MatchOption, MaySelect, Message, None}
use Rattle.is_c_theorems.proofs.Common.{nothing_emitted, Ok, Option, PairRecord, Path, Receives, request_in, RequestRecord, Result, Send487}
use Rattle.is_c_theorems.proofs.Common.{Some, Step, Stream, switched, SwitchRole, sym, TimesOut, true, ℕ}

either : (b : Bool) {X Y Z : Type 0} → (X → Z) → (Y → Z) → MatchBool b X Y → Z
either true f g h = f h
either false f g h = g h

optional : {A : Type 0} (o : Option A) {N Z : Type 0} (S : A → Type 0) → (N → Z) → ((x : A) → S x → Z) → MatchOption o N S → Z
optional None S f g h = f h
optional (Some x) S f g h = g x h

abbrev pub is_check : Class → Bool
is_check class.Request = true
is_check _ = false

abbrev id_or : Option Issued → List ℕ
id_or None = []
id_or (Some i) = i.id.0

abbrev pub issues_check : Option Issued → Bool
issues_check None = false
issues_check (Some i) = is_check i.class

pub checks_none : (o : Option Issued) (path : Path) (id : List ℕ) → issues_check o ≡ false → o ≡ Some (issued_as path class.Request id) → ⊥
checks_none o path id none is = let wrong_ : false ≡ true = sym none ∙ ap issues_check is in cc

-- ---- a request that is served issues a response, or nothing

silent : {A : Type 0} (emitted : Emitted) → (emitted ≡ nothing_emitted) × A → issues_check emitted.issued ≡ false
silent emitted k = ap (λ (e : Emitted). issues_check e.issued) k.0

abbrev pub is_timeout : {P : Type 0} → Call P → Bool
is_timeout (agent.HandleTimeout now) = true
is_timeout _ = false

module _ {H P : Type 0} (mac : H → List ℕ → List ℕ → List ℕ) where
  records : (q : RequestRecord) (l r number : ℕ) (s new : AgentRecord H P) (emitted : Emitted) → RecordsAndResponds mac q l r number s emitted new
      → issues_check emitted.issued ≡ false
  records q l r number s new emitted (path, mid, nominates, (put, is, made)) = ap (λ (e : Emitted). issues_check e.issued) is

  joins : (q : RequestRecord) (l r : ℕ) (s new : AgentRecord H P) (emitted : Emitted) → Joins mac q l r s emitted new → issues_check emitted.issued ≡ false
  joins q l r s new emitted (Some number, between, k) = records q l r number s new emitted k
  joins q l r s new emitted (None, between, k) = either (candidate_at s.local l).discarded (silent emitted)
      (λ j. records q l r s.next_number (with_pair (formed s l r) s) new emitted j.1) k

  finds : (q : RequestRecord) (l : ℕ) (s new : AgentRecord H P) (emitted : Emitted) → FindsSender mac q l s emitted new → issues_check emitted.issued ≡ false
  finds q l s new emitted (place, is, k) = by place k where
    by : (place : RemotePlace) → AddsUnknownSender mac q l place s emitted new → issues_check emitted.issued ≡ false
    by (Known r) k = joins q l r s new emitted k
    by Barred k = silent emitted k
    by Unknown k = joins q l _ (with_sender q s) new emitted k
    by (Vacant r) k = joins q l r (with_sender_at r q s) new emitted k
    by Full k = silent emitted k

  counts : (q : RequestRecord) (l : ℕ) (s new : AgentRecord H P) (emitted : Emitted) → CountsAndServes mac q l s emitted new → issues_check emitted.issued ≡ false
  counts q l s new emitted h = either (is_misled s.controlling q) (silent emitted) (λ k. finds q l (request_counted s) new emitted k) h

  resolves : (c : Conflict) (q : RequestRecord) (l : ℕ) (s new : AgentRecord H P) (emitted : Emitted) → ResolvesRoleConflictBy mac c q l s emitted new
      → issues_check emitted.issued ≡ false
  resolves Absent q l s new emitted h = counts q l s new emitted h
  resolves Send487 q l s new emitted (put, is, made) = ap (λ (e : Emitted). issues_check e.issued) is
  resolves SwitchRole q l s new emitted h = counts q l (switched s) new emitted h

  serves : (q : RequestRecord) (s new : AgentRecord H P) (emitted : Emitted) → Serves mac q s emitted new → issues_check emitted.issued ≡ false
  serves q s new emitted h = either (is_for_other_peer s q) (silent emitted)
      (λ k. optional (local_place s.local q) _ (silent emitted) (λ l j. resolves (conflict_of s q) q l s new emitted j) k) (in_turn mac q s new emitted h)

  fails : (old new : AgentRecord H P) (via : Path) (m : Message) (emitted : Emitted) → HandlesFailure old via m emitted new → issues_check emitted.issued ≡ false
  fails old new via m emitted (p, has, kept, h) = either (is_role_conflict m) (λ (c, has_it, is, k). either _ (silent emitted) (silent emitted) k) (silent emitted) h

  takes : (c : Class) (now : ℕ) (old new : AgentRecord H P) (via : Path) (m : Message) (emitted : Emitted) → Takes mac c now old via m emitted new
      → issues_check emitted.issued ≡ false
  takes class.Request now old new via m emitted h = optional old.remote_creds _ (silent emitted) (λ peer k. serves (request_in now via m) old new emitted k) h
  takes class.Success now old new via m emitted (recorded, stored, (path, mid, nominates, is, made)) = ap (λ (e : Emitted). issues_check e.issued) is
  takes class.Failure now old new via m emitted h = fails old new via m emitted h
  takes class.Indication now old new via m emitted h = absurd h
  takes class.Unknown now old new via m emitted h = absurd h

  handles : (now : ℕ) (old new : AgentRecord H P) (via : Path) (m : Message) (r : Result Bool IceError) (emitted : Emitted)
      → HandlesPacket mac now old via m r emitted new → issues_check emitted.issued ≡ false
  handles now old new via m (Ok true) emitted (accepted, (mid, k, made)) = takes m.class now old mid via m emitted k
  handles now old new via m (Ok false) emitted (not_accepted, is, made) = ap (λ (e : Emitted). issues_check e.issued) is
  handles now old new via m (Err error) emitted (may, is, made) = ap (λ (e : Emitted). issues_check e.issued) is

  receives : (answers : P → CandidateRecord → ℕ → ℕ → Type 0) (now : ℕ) (old new : AgentRecord H P) (via : Path) (bytes : List ℕ) (e : Entry) → Receives mac answers now old via bytes e new → issues_check e.emitted.issued ≡ false
  receives answers now old new via bytes e (inl (fault, is_fault, is, made)) = ap (λ (x : Entry). issues_check x.emitted.issued) is
  receives answers now old new via bytes e (inr (m, reads, (r, emitted, is, k))) =
      ap (λ (x : Entry). issues_check x.emitted.issued) is ∙ handles now old new via m r emitted k

  -- ---- a call other than `handle_timeout` issues no check

  module _ (answers : P → CandidateRecord → ℕ → ℕ → Type 0) where
    abbrev issues : Entry → Bool
    issues e = issues_check e.emitted.issued

    selects : {A : Type 0} (to_answer : A → agent.Answer) (Does : A → AgentRecord H P → Type 0) (old new : AgentRecord H P) (s t : Stream) (e : Entry)
        → MaySelect to_answer Does old s e new t → issues e ≡ false
    selects to_answer Does old new s t e (r, emitted, is, (path, mid, does, reselects, selected), drawn) =
        ap (λ (x : Entry). issues x) is ∙ ap (λ (x : Emitted). issues_check x.issued) selected

    pub unless_timeout : (call : Call P) (old new : AgentRecord H P) (s t : Stream) (e : Entry) → Step mac answers old s call e new t → is_timeout call ≡ false
        → issues e ≡ false
    unless_timeout (agent.SetMtu n w) old new s t e k none = ap (λ (x : Entry). issues x) k.1
    unless_timeout (agent.SetLocalCredentials creds) old new s t e k none = ap (λ (x : Entry). issues x) k.1
    unless_timeout (agent.SetRemoteCredentials creds) old new s t e k none = ap (λ (x : Entry). issues x) k.1
    unless_timeout (agent.RestartIce creds keep) old new s t e k none = ap (λ (x : Entry). issues x) k.1
    unless_timeout agent.RecreateCandidatePairs old new s t e k none = ap (λ (x : Entry). issues x) k.1
    unless_timeout (agent.SetMaxStunRetransmits n) old new s t e k none =
        either (n == 0) (λ j. ap (λ (x : Entry). issues x) j.0) (λ j. ap (λ (x : Entry). issues x) j.0) k
    unless_timeout (agent.AddLocalCandidate c) old new s t e k none = selects _ _ old new s t e k
    unless_timeout (agent.AddRemoteCandidate c) old new s t e k none = selects _ _ old new s t e k
    unless_timeout (agent.InvalidateCandidate c) old new s t e k none = selects _ _ old new s t e k
    unless_timeout (agent.ReceivePacket now path bytes) old new s t e k none = receives answers now old new path bytes e k.0
    unless_timeout (agent.HandleTimeout now) old new s t e k none = let wrong_ : true ≡ false = none in cc
    unless_timeout agent.PollTransmit old new s t e k none = ap (λ (x : Entry). issues x) k.1
    unless_timeout agent.PollTimeout old new s t e k none = ap (λ (x : Entry). issues x) k.1
    unless_timeout agent.PollEvent old new s t e k none = ap (λ (x : Entry). issues x) k.1
    unless_timeout _ old new s t e k none = ap (λ (x : Entry). issues x) k.0

  -- ---- the transaction ID of a check

  tops : (now : ℕ) (peer : IceCreds) (next : Option PairRecord) (old new : AgentRecord H P) (s t : Stream) (issued : Option Issued)
      → ChecksTop mac now peer next old s issued new t → (path : Path) (id : List ℕ) → issued ≡ Some (issued_as path class.Request id) → id ≡ (fill_bytes 12 s).0
  tops now peer None old new s t issued k path id is = let wrong_ : None ≡ Some (issued_as path class.Request id) = sym k.0 ∙ is in absurd (cc)
  tops now peer (Some p) old new s t issued (drawn, left, put, reported, made) path id is =
      ap id_or (sym is ∙ reported) ∙ ap (λ (x : List ℕ × Stream). x.0) left

  may_check : (now : ℕ) (remote : Option IceCreds) (old new : AgentRecord H P) (s t : Stream) (issued : Option Issued) → MayCheck mac now remote old s issued new t
      → (path : Path) (id : List ℕ) → issued ≡ Some (issued_as path class.Request id) → id ≡ (fill_bytes 12 s).0
  may_check now None old new s t issued k path id is = let wrong_ : None ≡ Some (issued_as path class.Request id) = sym k.0 ∙ is in absurd (cc)
  may_check now (Some peer) old new s t issued k path id is = either old.lite
      (λ j. let wrong_ : None ≡ Some (issued_as path class.Request id) = sym j.0 ∙ is in absurd (cc))
      (λ j. tops now peer j.0 (all_scheduled now old) new s t issued j.2 path id is) k

  pub drawn_at : (now : ℕ) (old new : AgentRecord H P) (s t : Stream) (r : Result (Unit {0}) IceError) (emitted : Emitted) → TimesOut mac now old s r emitted new t
      → (path : Path) (id : List ℕ) → emitted.issued ≡ Some (issued_as path class.Request id) → id ≡ (fill_bytes 12 s).0
  drawn_at now old new s t (Ok _) emitted k path id is = optional (request_at now old) _
      (λ (first, second, issued, named, kept, nominating, giving, checking, made).
      may_check now kept.remote_creds kept new s t issued checking path id (sym (ap (λ (e : Emitted). e.issued) made) ∙ is))
      (λ q j. absurd (checks_none emitted.issued path id (serves q _ new emitted j.0) is)) k
  drawn_at now old new s t (Err error) emitted k path id is = absurd (checks_none emitted.issued path id (ap (λ (e : Emitted). issues_check e.issued) k.1) is)

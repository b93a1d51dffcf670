-- For each call: its effect on settings, credentials, role and queues.
use Rattle.is_stun.specs.declared.header.Class.TheVariants as class
use Rattle.is_theorems.proofs.Common.{[], ◌&&◌, ◌++◌, ◌==◌, ◌∙◌, ◌∷◌, ◌≡◌, ◌⊎◌, Absent, added, AddLocalCandidate, AddRemoteCandidate}
use Rattle.is_theorems.proofs.Common.{AddsLocal, AddsRemote, AgentRecord, all_scheduled, Answer, answer_by, ap, appended, as_remote, scheduled}
use Rattle.is_theorems.proofs.Common.{at_request, at_timeout, Becomes, Bool, Brings, Call, CandidateRecord, check_message, ChecksTop, Class}
use Rattle.is_theorems.proofs.Common.{Combination, conflict_by, conflict_of, controlling_set, discovered_emitted, Done, done, drop, Drops}
use Rattle.is_theorems.proofs.Common.{Emitted, emptied, enabled_again, Entry, Err, error_noted, false, first_taken, Flag, FormsAll}
use Rattle.is_theorems.proofs.Common.{HandlesFailure, HandleTimeout, head, IceCreds, IceError, if◌then◌else◌, inl, inr, InvalidateCandidate}
use Rattle.is_theorems.proofs.Common.{Invalidates, InvalidatesAt, is_done, is_modern, is_outdated, is_role_conflict, is_some, IsQueued}
use Rattle.is_theorems.proofs.Common.{IsRejectedBy, IsRoleSet, IsServedPastTests, IsServing, Issued, keeping_set_by, keeps_role, LeavesRole}
use Rattle.is_theorems.proofs.Common.{length, List, lite_set_by, local_after, local_discarded, local_to_discard, loses_selected}
use Rattle.is_theorems.proofs.Common.{MaintainsPairs, map, MatchBool, MatchOption, MayCheck, MayDo, MaySelect, Message, next_request}
use Rattle.is_theorems.proofs.Common.{NextTimeout, None, not, NotCalled, nothing_emitted, Ok, Option, Packet, PairRecord, Path, path_left}
use Rattle.is_theorems.proofs.Common.{path_of, PollEvent, PollTimeout, PollTransmit, queue_left, queued, QueuesPackets, quiet, Reads}
use Rattle.is_theorems.proofs.Common.{ReceivePacket, Receives, RecreateCandidatePairs, Recreates, refl, Rejected, remote_after}
use Rattle.is_theorems.proofs.Common.{remote_discarded, remote_to_discard, request_at, request_in, RequestRecord, Reselects, restarted}
use Rattle.is_theorems.proofs.Common.{RestartIce, Restarts, Result, rival, role_once, same, selected_only, Send487, Serves, ServesQueued}
use Rattle.is_theorems.proofs.Common.{SetConsent, SetControlling, SetControlTieBreaker, SetIceLite, SetInitialStunRto, SetLiteTimeout}
use Rattle.is_theorems.proofs.Common.{SetLocalCredentials, SetLocalPreference, SetMaxCandidatePairs, SetMaxCandidates, SetMaxDiscovered}
use Rattle.is_theorems.proofs.Common.{SetMaxStunRetransmits, SetMaxStunRto, SetMtu, SetProfile, SetRemoteCredentials, SetRenomination}
use Rattle.is_theorems.proofs.Common.{SetsLocal, SetsMtu, SetsRemote, SetTimingAdvance, SkipPairIds, Some, Step, Stream, StunTiming, subst}
use Rattle.is_theorems.proofs.Common.{switched, SwitchesRoleFor, SwitchRole, sym, take, take-append-drop, take_while, Takes, tie_set_by}
use Rattle.is_theorems.proofs.Common.{timeout_begun, TimesOut, true, Unparsed, Waits, WaitsPast, with_remote, with_retransmits, with_rtos}
use Rattle.is_theorems.proofs.Common.{written, ℕ}
use Rattle.is_theorems.proofs.CallEffects.FailedCallsAndNewAgents.{mtu_kept, local_kept, remote_kept, restart_kept, recreation_kept}
use Rattle.is_theorems.proofs.CallEffects.FailedCallsAndNewAgents.{enrolment_kept, storing_kept}
use Rattle.is_theorems.proofs.RuleEffects.UnchangedSettings.{Frame, either, frame_of, packet_along, nominates_frame, Stays, Turns, drops}
use Rattle.is_theorems.proofs.RuleEffects.UnchangedSettings.{serves, serves_role, handles_success, removes_expired}
use Rattle.is_theorems.proofs.CallEffects.AddedCandidates.{by_adding_local, by_adding_remote, by_waking}

pub left_after : (now : ℕ) (t : StunTiming) (remote : Option IceCreds) (queue : List RequestRecord)
    → (gone : List RequestRecord) × (queue ≡ gone ++ queue_left now t remote queue)
left_after now t None queue = ([], refl)
left_after now t (Some peer) queue =
    let n = length (take_while (is_outdated now t) queue) in (take n queue, sym (take-append-drop n queue))

headed : {X : Type 0} (xs : List X) (x : X) → head xs ≡ Some x → xs ≡ x ∷ drop 1 xs
headed [] x h = cc
headed (y ∷ ys) x h = ap (λ z. z ∷ ys) (some-is y x h) where
  some-is : {X : Type 0} (y x : X) → Some y ≡ Some x → y ≡ x
  some-is y x h = cc

next_headed : (remote : Option IceCreds) (queue : List RequestRecord) (q : RequestRecord) → next_request remote queue ≡ Some q → queue ≡ q ∷ drop 1 queue
next_headed None queue q h = cc
next_headed (Some peer) queue q h = headed queue q h

same_true : (a b : Bool) → same a b ≡ true → a ≡ b
same_true true true h = refl
same_true true false h = cc
same_true false true h = cc
same_true false false h = refl

same_false : (a b : Bool) → same a b ≡ false → b ≡ not a
same_false true true h = cc
same_false true false h = refl
same_false false true h = refl
same_false false false h = cc

unknown : (peer : Option IceCreds) → peer ≡ None → is_some peer ≡ true → ⊥
unknown None none known = let no : false ≡ true = known in cc
unknown (Some peer) none known = cc

and-false : (b : Bool) → b && not true ≡ false
and-false true = refl
and-false false = refl

and-true : (b : Bool) → b && not false ≡ b
and-true true = refl
and-true false = refl

same-either : {X : Type 0} (b : Bool) (x : X) → (if b then x else x) ≡ x
same-either true x = refl
same-either false x = refl

-- the entry of a call that issues nothing, and may select this path
abbrev choosing : Answer → Option Path → Entry
choosing answer path = record { answer = answer; emitted = selected_only path }

-- the role that `set_controlling` leaves or sets
set-or-left : (keeps was role : Bool) → ((if keeps then was else role) ≡ was) ⊎ ((if keeps then was else role) ≡ role)
set-or-left true was role = inl refl
set-or-left false was role = inr refl

-- an agent that keeps its role does not switch it
never-switches : (keeps : Bool) (own : ℕ) (o : Option ℕ) → keeps ≡ true → conflict_by keeps own o ≡ SwitchRole → ⊥
never-switches true own None is h = let no : Absent ≡ SwitchRole = h in cc
never-switches true own (Some rival) is h = let no : Send487 ≡ SwitchRole = h in cc
never-switches false own o is h = let no : false ≡ true = is in cc

module _ {H P : Type 0} where
  -- the fields of an effect that are about settings, credentials, role and queues
  pub record FrameEffect (old : AgentRecord H P) (call : Call P) (e : Entry) (new : AgentRecord H P) : Type 0 where
    pub provider : new.provider ≡ old.provider
    pub tie_breaker : new.tie_breaker ≡ tie_set_by call old.tie_breaker
    pub lite : new.lite ≡ lite_set_by call old.lite
    pub keeping : is_modern new.timing ≡ keeping_set_by call (is_modern old.timing)
    pub local_creds : new.local_creds ≡ local_after call e.answer old.local_creds
    pub remote_creds : new.remote_creds ≡ remote_after call e.answer old.remote_creds
    pub sends : QueuesPackets call e old.packets new.packets
    pub waits : Waits old call e new
    pub role : (new.controlling ≡ old.controlling)
        ⊎ (SwitchesRoleFor old call e new ⊎ (IsRejectedBy old call e new ⊎ IsRoleSet call new.controlling))
    pub settled : (q : RequestRecord) → IsServing old call e q → IsServedPastTests old q
        → new.controlling ≡ role_once (conflict_of old q) old.controlling
    pub keeps : keeps_role old ≡ true → (new.controlling ≡ old.controlling) ⊎ IsRoleSet call new.controlling
    pub expired : keeps_role old ≡ false → (at : ℕ) (by : Path) (m : Message) → Brings call e at by m → m.class ≡ class.Failure → is_role_conflict m ≡ true
        → IsRejectedBy old call e new

  -- the entry and the abstract state are these
  moved : (old new needed : AgentRecord H P) (call : Call P) (e f : Entry) → e ≡ f → new ≡ needed → FrameEffect old call f needed → FrameEffect old call e new
  moved old new needed call e f is made h =
      subst (λ (x : Entry). FrameEffect old call x new) (sym is) (subst (λ (a : AgentRecord H P). FrameEffect old call f a) (sym made) h)

  -- a call that receives nothing
  plain : (old new : AgentRecord H P) (call : Call P) (e : Entry)
      → new.provider ≡ old.provider → new.tie_breaker ≡ tie_set_by call old.tie_breaker → new.lite ≡ lite_set_by call old.lite
      → is_modern new.timing ≡ keeping_set_by call (is_modern old.timing)
      → new.local_creds ≡ local_after call e.answer old.local_creds → new.remote_creds ≡ remote_after call e.answer old.remote_creds
      → QueuesPackets call e old.packets new.packets → Waits old call e new
      → ((new.controlling ≡ old.controlling) ⊎ IsRoleSet call new.controlling)
      → ((q : RequestRecord) → IsServing old call e q → ⊥) → ((at : ℕ) (by : Path) (m : Message) → Brings call e at by m → ⊥)
      → FrameEffect old call e new
  plain old new call e a b c k d f g h role serving brings = record {
    provider = a;
    tie_breaker = b;
    lite = c;
    keeping = k;
    local_creds = d;
    remote_creds = f;
    sends = g;
    waits = h;
    role = elim role [ inl same ↦ inl same | inr set ↦ inr (inr (inr set)) ];
    settled = λ q s. absurd (serving q s);
    keeps = λ _. role;
    expired = λ _ at by m came. absurd (brings at by m came);
  }

  -- the same frame, and the same packets
  abbrev Alike : AgentRecord H P → AgentRecord H P → Type 0
  Alike old new = (frame_of new ≡ frame_of old) × (new.packets ≡ old.packets)

  forms_alike : (old new : AgentRecord H P) (all : List Combination) → FormsAll old all new → Alike old new
  forms_alike old new all (f, forms, made) = (ap (λ (a : AgentRecord H P). frame_of a) made, ap (λ (a : AgentRecord H P). a.packets) made)

  -- a call that leaves the queues, keeps settings and credentials, and receives nothing
  alike : (old new : AgentRecord H P) (call : Call P) (answer : Answer) (path : Option Path) → Alike old new
      → tie_set_by call old.tie_breaker ≡ old.tie_breaker → lite_set_by call old.lite ≡ old.lite → keeping_set_by call (is_modern old.timing) ≡ is_modern old.timing
      → local_after call answer old.local_creds ≡ old.local_creds → remote_after call answer old.remote_creds ≡ old.remote_creds
      → (new.packets ≡ old.packets → QueuesPackets call (choosing answer path) old.packets new.packets)
      → (new.queue ≡ old.queue → Waits old call (choosing answer path) new)
      → ((q : RequestRecord) → IsServing old call (choosing answer path) q → ⊥)
      → ((at : ℕ) (by : Path) (m : Message) → Brings call (choosing answer path) at by m → ⊥)
      → FrameEffect old call (choosing answer path) new
  alike old new call answer path (frame, packets) tie lite keeping local remote queues waits serving brings =
      plain old new call (choosing answer path) (ap (λ (f : Frame H). f.provider) frame) (ap (λ (f : Frame H). f.tie_breaker) frame ∙ sym tie)
      (ap (λ (f : Frame H). f.lite) frame ∙ sym lite) (ap (λ (f : Frame H). f.keeping) frame ∙ sym keeping) (ap (λ (f : Frame H). f.local_creds) frame ∙ sym local)
      (ap (λ (f : Frame H). f.remote_creds) frame ∙ sym remote) (queues packets) (waits (ap (λ (f : Frame H). f.queue) frame))
      (inl (ap (λ (f : Frame H). f.controlling) frame)) serving brings

  -- ---- candidates

  same_record : (old new : AgentRecord H P) → new ≡ old → Alike old new
  same_record old new made = (ap (λ (a : AgentRecord H P). frame_of a) made, ap (λ (a : AgentRecord H P). a.packets) made)

  pub adds_local : (answers : P → CandidateRecord → ℕ → ℕ → Type 0) (old new : AgentRecord H P) (c : CandidateRecord) (r : Result (Option ℕ) IceError)
      → AddsLocal answers old c r new → Alike old new
  adds_local answers old new c (Err error) h = same_record old new (enrolment_kept answers old new c error h)
  adds_local answers old new c (Ok place) h = by_adding_local old new answers c place h
      (λ made. same_record old new made)
      (λ x own f. forms_alike (appended x old) new _ f)
      (λ k lt f. forms_alike (enabled_again k old) new _ f)
      (λ x own k f. forms_alike (appended x (local_discarded k old)) new _ f)

  pub adds_remote : (old new : AgentRecord H P) (c : CandidateRecord) (r : Result (Unit {0}) IceError) → AddsRemote old c r new → Alike old new
  adds_remote old new c (Err error) h = same_record old new (storing_kept old new c error h)
  adds_remote old new c (Ok _) h = by_adding_remote old new c h
      (λ made. same_record old new made)
      (λ f. forms_alike (with_remote (as_remote c) None old) new _ f)
      (λ k lt addr f. forms_alike (with_remote (as_remote c) (Some k) old) new _ f)

  invalidates_at : (old new : AgentRecord H P) (l r : Option ℕ) (found : Bool) → InvalidatesAt l r old found new → Alike old new
  invalidates_at old new (Some place) r found h = same_record (local_discarded place old) new h.1
  invalidates_at old new None (Some place) found h = same_record (remote_discarded place old) new h.1
  invalidates_at old new None None found h = same_record old new h.1

  pub invalidates : (old new : AgentRecord H P) (c : CandidateRecord) (found : Bool) → Invalidates old c found new → Alike old new
  invalidates old new c found h = invalidates_at old new (local_to_discard c old) (remote_to_discard c old) found h

  -- another path may be selected after the call
  reselects : (loses : Bool) (old mid new : AgentRecord H P) (path : Option Path) → Alike old mid → Reselects loses mid path new → Alike old new
  reselects true old mid new path (frame, packets) (named, nominates, made) =
      let k = nominates_frame mid named path nominates in
      (ap (λ (a : AgentRecord H P). frame_of a) made ∙ (k.0 ∙ frame), ap (λ (a : AgentRecord H P). a.packets) made ∙ (k.1 ∙ packets))
  reselects false old mid new path (frame, packets) h =
      (ap (λ (a : AgentRecord H P). frame_of a) h.1 ∙ frame, ap (λ (a : AgentRecord H P). a.packets) h.1 ∙ packets)

  -- ---- early requests

  served_past : (now : ℕ) (old : AgentRecord H P) (q : RequestRecord) → request_at now old ≡ Some q
      → (gone : List RequestRecord) × (old.queue ≡ gone ++ q ∷ drop 1 (queue_left now old.timing old.remote_creds old.queue))
  served_past now old q h =
      let k = left_after now old.timing old.remote_creds old.queue in
      (k.0, k.1 ∙ ap (λ (rest : List RequestRecord). k.0 ++ rest) (next_headed old.remote_creds (queue_left now old.timing old.remote_creds old.queue) q h))

  -- ---- `handle_timeout` calls

  module _ (mac : H → List ℕ → List ℕ → List ℕ) where
    checks : (now : ℕ) (remote : Option IceCreds) (old new : AgentRecord H P) (s t : Stream) (issued : Option Issued)
        → MayCheck mac now remote old s issued new t → (frame_of new ≡ frame_of old) × IsQueued issued old.packets new.packets
    checks now None old new s t issued (is, made, drawn) =
        (ap (λ (a : AgentRecord H P). frame_of a) made, subst (λ i. IsQueued i old.packets new.packets) (sym is) (ap (λ (a : AgentRecord H P). a.packets) made))
    checks now (Some remote) old new s t issued h = either old.lite h
        (λ _ k. (ap (λ (a : AgentRecord H P). frame_of a) k.1, subst (λ i. IsQueued i old.packets new.packets) (sym k.0) (ap (λ (a : AgentRecord H P). a.packets) k.1)))
        (λ _ k. next k.0 k.2) where
          next : (top : Option PairRecord) → ChecksTop mac now remote top (all_scheduled now old) s issued new t
              → (frame_of new ≡ frame_of old) × IsQueued issued old.packets new.packets
          next None (is, made, drawn) =
              (ap (λ (a : AgentRecord H P). frame_of a) made, subst (λ i. IsQueued i old.packets new.packets) (sym is) (ap (λ (a : AgentRecord H P). a.packets) made))
          next (Some p) (id, drawn, values, is, made) =
              let asked : AgentRecord H P = all_scheduled now old in (
                ap (λ (a : AgentRecord H P). frame_of a) made,
                subst (λ i. IsQueued i old.packets new.packets) (sym is)
                    (packet_along (path_of asked p) (written (mac asked.provider) (Some remote.pass) (check_message asked remote p id)), refl, ap (λ (a : AgentRecord H P). a.packets) made),
              )

    pub maintains_pairs : (now : ℕ) (old new : AgentRecord H P) (s t : Stream) (emitted : Emitted) → MaintainsPairs mac now old s emitted new t → Stays old emitted new
    maintains_pairs now old new s t emitted (first, second, issued, named, kept, nominates, gives, check, is) =
        let a = nominates_frame (path_left now (at_timeout now old)) named first nominates in
        let b = removes_expired now named kept second gives in
        let c = checks now kept.remote_creds kept new s t issued check in (
          c.0 ∙ (b.0 ∙ a.0),
          subst (λ (t : Emitted). IsQueued t.issued old.packets new.packets) (sym is)
              (subst (λ (ps : List Packet). IsQueued issued ps new.packets) (b.1 ∙ a.1) c.1),
        )

    timeout_by : (now : ℕ) (old new : AgentRecord H P) (s t : Stream) (emitted : Emitted) (o : Option RequestRecord) → request_at now old ≡ o
        → MatchOption o (MaintainsPairs mac now (timeout_begun now old) s emitted new t) (λ q. ServesQueued mac q (at_request now (timeout_begun now old)) s emitted new t)
        → FrameEffect old (HandleTimeout now) (record { answer = Done; emitted = emitted }) new
    timeout_by now old new s t emitted None is h =
        let k = maintains_pairs now (timeout_begun now old) new s t emitted h in
        let left = left_after now old.timing old.remote_creds old.queue in record {
          provider = ap (λ (f : Frame H). f.provider) k.0;
          tie_breaker = ap (λ (f : Frame H). f.tie_breaker) k.0;
          lite = ap (λ (f : Frame H). f.lite) k.0;
          keeping = ap (λ (f : Frame H). f.keeping) k.0;
          local_creds = ap (λ (f : Frame H). f.local_creds) k.0;
          remote_creds = ap (λ (f : Frame H). f.remote_creds) k.0;
          sends = k.1;
          waits = subst (λ (o : Option RequestRecord). WaitsPast o Done old.queue new.queue) (sym is)
              (left.0, left.1 ∙ ap (λ (rest : List RequestRecord). left.0 ++ rest) (sym (ap (λ (f : Frame H). f.queue) k.0)));
          role = inl (ap (λ (f : Frame H). f.controlling) k.0);
          settled = λ q serving past. (let no : None ≡ Some q = sym is ∙ serving.0 in cc);
          keeps = λ _. inl (ap (λ (f : Frame H). f.controlling) k.0);
          expired = λ _ at by m brings. absurd brings;
        }
    timeout_by now old new s t emitted (Some q) is (h, drawn) =
        let turn : Turns mac q (first_taken (at_request now (timeout_begun now old))) emitted new = serves mac q (first_taken (at_request now (timeout_begun now old))) new emitted h in
        let past = served_past now old q is in
        let serving : IsServing old (HandleTimeout now) (record { answer = Done; emitted = emitted }) q = (is, refl) in elim turn [
          | inl k ↦ record {
            provider = ap (λ (f : Frame H). f.provider) k.0;
            tie_breaker = ap (λ (f : Frame H). f.tie_breaker) k.0;
            lite = ap (λ (f : Frame H). f.lite) k.0;
            keeping = ap (λ (f : Frame H). f.keeping) k.0;
            local_creds = ap (λ (f : Frame H). f.local_creds) k.0;
            remote_creds = ap (λ (f : Frame H). f.remote_creds) k.0;
            sends = k.1;
            waits = subst (λ (o : Option RequestRecord). WaitsPast o Done old.queue new.queue) (sym is)
                (past.0, past.1 ∙ ap (λ (rest : List RequestRecord). past.0 ++ q ∷ rest) (sym (ap (λ (f : Frame H). f.queue) k.0)));
            role = inl (ap (λ (f : Frame H). f.controlling) k.0);
            settled = settled;
            keeps = λ _. inl (ap (λ (f : Frame H). f.controlling) k.0);
            expired = λ _ at by m brings. absurd brings;
          }
          | inr k ↦ record {
            provider = ap (λ (f : Frame H). f.provider) k.1.0;
            tie_breaker = ap (λ (f : Frame H). f.tie_breaker) k.1.0;
            lite = ap (λ (f : Frame H). f.lite) k.1.0;
            keeping = ap (λ (f : Frame H). f.keeping) k.1.0;
            local_creds = ap (λ (f : Frame H). f.local_creds) k.1.0;
            remote_creds = ap (λ (f : Frame H). f.remote_creds) k.1.0;
            sends = k.1.1;
            waits = subst (λ (o : Option RequestRecord). WaitsPast o Done old.queue new.queue) (sym is)
                (past.0, past.1 ∙ ap (λ (rest : List RequestRecord). past.0 ++ q ∷ rest) (sym (ap (λ (f : Frame H). f.queue) k.1.0)));
            role = inr (inl (q, serving, k.0, ap (λ (f : Frame H). f.controlling) k.1.0));
            settled = settled;
            keeps = λ kept. absurd (never-switches (keeps_role old) old.tie_breaker (rival old q) kept k.0);
            expired = λ _ at by m brings. absurd brings;
          }
        ] where
          settled : (r : RequestRecord) → IsServing old (HandleTimeout now) (record { answer = Done; emitted = emitted }) r → IsServedPastTests old r
              → new.controlling ≡ role_once (conflict_of old r) old.controlling
          settled r serving past =
              let other : Some q ≡ Some r = sym is ∙ serving.0 in let same : r ≡ q = cc in
              let k : IsServedPastTests old q = subst (λ x. IsServedPastTests old x) same past in
              subst (λ x. new.controlling ≡ role_once (conflict_of old x) old.controlling) (sym same) (serves_role mac q (first_taken (at_request now (timeout_begun now old))) new emitted k.1.0 k.0 k.1.1 h)

    -- ---- packets

    module _ (now : ℕ) (old mid : AgentRecord H P) (path : Path) (bytes : List ℕ) (m : Message) (emitted : Emitted) (reads : Reads bytes m) where
      abbrev call : Call P
      call = ReceivePacket now path bytes

      abbrev entry : Entry
      entry = record { answer = Flag true; emitted = emitted }

      abbrev new : AgentRecord H P
      new = discovered_emitted m.class emitted path mid

      abbrev q : RequestRecord
      q = request_in now path m

      brought : Brings call entry now path m
      brought = (refl, refl, reads, refl)

      same_message : (at : ℕ) (by : Path) (n : Message) → Brings call entry at by n → n ≡ m
      same_message at by n (_, _, other, _) = other.spelled ∙ sym reads.spelled

      -- a message that leaves the role and serves nothing
      still : (c : Class) → m.class ≡ c → (record (frame_of mid) { queue = old.queue } ≡ frame_of old) × IsQueued emitted.issued old.packets mid.packets → Waits old call entry new → ((m.class ≡ class.Request) → is_some old.remote_creds ≡ true → ⊥)
          → ((m.class ≡ class.Failure) → is_role_conflict m ≡ true → ⊥) → FrameEffect old call entry new
      still c is k waits serves_none fails_none = record {
        provider = ap (λ (f : Frame H). f.provider) k.0;
        tie_breaker = ap (λ (f : Frame H). f.tie_breaker) k.0;
        lite = ap (λ (f : Frame H). f.lite) k.0;
        keeping = ap (λ (f : Frame H). f.keeping) k.0;
        local_creds = ap (λ (f : Frame H). f.local_creds) k.0;
        remote_creds = ap (λ (f : Frame H). f.remote_creds) k.0;
        sends = k.1;
        waits = waits;
        role = inl (ap (λ (f : Frame H). f.controlling) k.0);
        settled = λ r serving past. (
            let same_is = same_message serving.0 serving.1 serving.2 serving.3 in
            absurd (serves_none (sym (ap (λ (x : Message). x.class) same_is) ∙ serving.4) serving.5));
        keeps = λ _. inl (ap (λ (f : Frame H). f.controlling) k.0);
        expired = λ _ at by n brings failure conflict. (
            let same_is = same_message at by n brings in
            absurd (fails_none (sym (ap (λ (x : Message). x.class) same_is) ∙ failure) (sym (ap is_role_conflict same_is) ∙ conflict)));
      }

      but_queue : Stays old emitted mid → (record (frame_of mid) { queue = old.queue } ≡ frame_of old) × IsQueued emitted.issued old.packets mid.packets
      but_queue k = (ap (λ (f : Frame H). record f { queue = old.queue }) k.0, k.1)

      request_fails : (m.class ≡ class.Request) → (m.class ≡ class.Failure) → is_role_conflict m ≡ true → ⊥
      request_fails a b c = let no : class.Request ≡ class.Failure = sym a ∙ b in cc

      -- an early request, or one that is served
      requested_by : (peer : Option IceCreds) → old.remote_creds ≡ peer → m.class ≡ class.Request
          → MatchOption peer ((emitted ≡ nothing_emitted) × (mid ≡ queued q old)) (λ peer. Serves mac q old emitted mid) → FrameEffect old call entry new
      requested_by None none is (emitted_is, made) =
          still class.Request is
          (ap (λ (a : AgentRecord H P). record (frame_of a) { queue = old.queue }) made, subst (λ (t : Emitted). IsQueued t.issued old.packets mid.packets) (sym emitted_is) (ap (λ (a : AgentRecord H P). a.packets) made))
          (inr (now, path, m, brought, is, none, ap (λ (a : AgentRecord H P). a.queue) made))
          (λ _ known. unknown old.remote_creds none known)
          (request_fails is)
      requested_by (Some peer) known is h = elim (serves mac q old mid emitted h) [
        | inl k ↦ record {
          provider = ap (λ (f : Frame H). f.provider) k.0;
          tie_breaker = ap (λ (f : Frame H). f.tie_breaker) k.0;
          lite = ap (λ (f : Frame H). f.lite) k.0;
          keeping = ap (λ (f : Frame H). f.keeping) k.0;
          local_creds = ap (λ (f : Frame H). f.local_creds) k.0;
          remote_creds = ap (λ (f : Frame H). f.remote_creds) k.0;
          sends = k.1;
          waits = inl (ap (λ (f : Frame H). f.queue) k.0);
          role = inl (ap (λ (f : Frame H). f.controlling) k.0);
          settled = settled;
          keeps = λ _. inl (ap (λ (f : Frame H). f.controlling) k.0);
          expired = expired;
        }
        | inr k ↦ record {
          provider = ap (λ (f : Frame H). f.provider) k.1.0;
          tie_breaker = ap (λ (f : Frame H). f.tie_breaker) k.1.0;
          lite = ap (λ (f : Frame H). f.lite) k.1.0;
          keeping = ap (λ (f : Frame H). f.keeping) k.1.0;
          local_creds = ap (λ (f : Frame H). f.local_creds) k.1.0;
          remote_creds = ap (λ (f : Frame H). f.remote_creds) k.1.0;
          sends = k.1.1;
          waits = inl (ap (λ (f : Frame H). f.queue) k.1.0);
          role = inr (inl (q, (now, path, m, brought, is, ap is_some known, refl), k.0, ap (λ (f : Frame H). f.controlling) k.1.0));
          settled = settled;
          keeps = λ kept. absurd (never-switches (keeps_role old) old.tie_breaker (rival old q) kept k.0);
          expired = expired;
        }
      ] where
        settled : (r : RequestRecord) → IsServing old call entry r → IsServedPastTests old r → mid.controlling ≡ role_once (conflict_of old r) old.controlling
        settled r (at, by, n, (at_is, by_is, other, flag), request, known, made) past =
            let same_q : r ≡ q = made ∙ (ap (λ x. request_in x by n) (sym at_is) ∙ (ap (λ x. request_in now x n) (sym by_is) ∙ ap (λ x. request_in now path x) (other.spelled ∙ sym reads.spelled))) in
            let k : IsServedPastTests old q = subst (λ x. IsServedPastTests old x) same_q past in
            subst (λ x. mid.controlling ≡ role_once (conflict_of old x) old.controlling) (sym same_q) (serves_role mac q old mid emitted k.1.0 k.0 k.1.1 h)

        expired : keeps_role old ≡ false → (at : ℕ) (by : Path) (n : Message) → Brings call entry at by n → n.class ≡ class.Failure → is_role_conflict n ≡ true → IsRejectedBy old call entry new
        expired _ at by n brings failure conflict =
            absurd (let no : class.Request ≡ class.Failure = sym is ∙ (sym (ap (λ (x : Message). x.class) (same_message at by n brings)) ∙ failure) in cc)

      no_request : (c : Class) → m.class ≡ c → (c ≡ class.Request → ⊥) → (m.class ≡ class.Request) → is_some old.remote_creds ≡ true → ⊥
      no_request c is differs request known = differs (sym is ∙ request)

      -- an error response: a 487 to a check of the present role switches it
      failed : m.class ≡ class.Failure → HandlesFailure old path m emitted mid → FrameEffect old call entry new
      failed is (p, has, on, h) = either (is_role_conflict m) h
          (λ conflict k. gives k conflict)
          (λ other k. still class.Failure is (but_queue (drops (error_noted p.number m old) mid emitted k)) (inl (ap (λ (f : Frame H). f.queue) (drops (error_noted p.number m old) mid emitted k).0)) (no_request class.Failure is (λ x. cc))
          (λ _ conflict. (let no : false ≡ true = sym other ∙ conflict in cc))) where
            gives : LeavesRole p m (error_noted p.number m old) emitted mid → is_role_conflict m ≡ true → FrameEffect old call entry new
            gives (c, keeps, id_is, h) conflict = by_rule (keeps_role old) refl h where
              no_serving : (r : RequestRecord) → IsServing old call entry r → IsServedPastTests old r → mid.controlling ≡ role_once (conflict_of old r) old.controlling
              no_serving r serving past =
                  let same_is = same_message serving.0 serving.1 serving.2 serving.3 in
                  absurd (no_request class.Failure is (λ x. cc) (sym (ap (λ (x : Message). x.class) same_is) ∙ serving.4) serving.5)

              left_role : keeps_role old ≡ true → Stays old emitted mid → FrameEffect old call entry new
              left_role kept f = record {
                provider = ap (λ (f : Frame H). f.provider) f.0;
                tie_breaker = ap (λ (f : Frame H). f.tie_breaker) f.0;
                lite = ap (λ (f : Frame H). f.lite) f.0;
                keeping = ap (λ (f : Frame H). f.keeping) f.0;
                local_creds = ap (λ (f : Frame H). f.local_creds) f.0;
                remote_creds = ap (λ (f : Frame H). f.remote_creds) f.0;
                sends = f.1;
                waits = inl (ap (λ (f : Frame H). f.queue) f.0);
                role = inl (ap (λ (f : Frame H). f.controlling) f.0);
                settled = no_serving;
                keeps = λ _. inl (ap (λ (f : Frame H). f.controlling) f.0);
                expired = λ unkept at by n brings failure other. absurd (let no : true ≡ false = sym kept ∙ unkept in cc);
              }

              rejected_by : mid.controlling ≡ not c.controlling → IsRejectedBy old call entry new
              rejected_by role = (now, path, path_of old p, m, c.controlling, brought, is, conflict, (p, c, has, keeps, id_is, refl, refl), role)

              effect : keeps_role old ≡ false → (record (frame_of mid) { controlling = not old.controlling } ≡ record (frame_of old) { controlling = not old.controlling }) × IsQueued emitted.issued old.packets mid.packets
                  → mid.controlling ≡ not c.controlling → FrameEffect old call entry new
              effect unkept f role = record {
                provider = ap (λ (f : Frame H). f.provider) f.0;
                tie_breaker = ap (λ (f : Frame H). f.tie_breaker) f.0;
                lite = ap (λ (f : Frame H). f.lite) f.0;
                keeping = ap (λ (f : Frame H). f.keeping) f.0;
                local_creds = ap (λ (f : Frame H). f.local_creds) f.0;
                remote_creds = ap (λ (f : Frame H). f.remote_creds) f.0;
                sends = f.1;
                waits = inl (ap (λ (f : Frame H). f.queue) f.0);
                role = inr (inr (inl (rejected_by role)));
                settled = no_serving;
                keeps = λ kept. absurd (let no : false ≡ true = sym unkept ∙ kept in cc);
                expired = λ _ at by n brings failure other. rejected_by role;
              }

              -- a lite agent that keeps its role drops it
              by_rule : (b : Bool) → keeps_role old ≡ b → MatchBool (same c.controlling old.controlling && not b) (Drops (switched (error_noted p.number m old)) emitted mid) (Drops (error_noted p.number m old) emitted mid) → FrameEffect old call entry new
              by_rule true kept k = left_role kept (drops (error_noted p.number m old) mid emitted (subst (λ x. MatchBool x (Drops (switched (error_noted p.number m old)) emitted mid) (Drops (error_noted p.number m old) emitted mid)) (and-false (same c.controlling old.controlling)) k))
              by_rule false unkept k = either (same c.controlling old.controlling) (subst (λ x. MatchBool x (Drops (switched (error_noted p.number m old)) emitted mid) (Drops (error_noted p.number m old) emitted mid)) (and-true (same c.controlling old.controlling)) k)
                  (λ now_is j. (
                  let f = drops (switched (error_noted p.number m old)) mid emitted j in
                  let role : mid.controlling ≡ not c.controlling = ap (λ (f : Frame H). f.controlling) f.0 ∙ ap not (sym (same_true c.controlling old.controlling now_is)) in
                  effect unkept (ap (λ (x : Frame H). record x { controlling = not old.controlling }) f.0, f.1) role))
                  (λ other j. (
                  let f = drops (error_noted p.number m old) mid emitted j in
                  let role : mid.controlling ≡ not c.controlling = ap (λ (f : Frame H). f.controlling) f.0 ∙ same_false c.controlling old.controlling other in
                  effect unkept (ap (λ (x : Frame H). record x { controlling = not old.controlling }) f.0, f.1) role))

      taken : (c : Class) → m.class ≡ c → Takes mac c now old path m emitted mid → FrameEffect old call entry new
      taken class.Request is h = requested_by old.remote_creds refl is h
      taken class.Success is h =
          let k = handles_success now old mid path m emitted h in
          still class.Success is (but_queue k) (inl (ap (λ (f : Frame H). f.queue) k.0)) (no_request class.Success is (λ x. cc))
          (λ failure _. (let no : class.Success ≡ class.Failure = sym is ∙ failure in cc))
      taken class.Failure is h = failed is h
      taken class.Indication is h = absurd h
      taken class.Unknown is h = absurd h

  -- ---- each call

  module _ (mac : H → List ℕ → List ℕ → List ℕ) (answers : P → CandidateRecord → ℕ → ℕ → Type 0) (old new : AgentRecord H P) (s t : Stream) (e : Entry) where
    unmoved : (call : Call P) (f : Entry) → e ≡ f → new ≡ old → FrameEffect old call f old → FrameEffect old call e new
    unmoved call f is made h = moved old new old call e f is made h

    -- a call that succeeds or fails
    done_or : (Does : Result (Unit {0}) IceError → AgentRecord H P → Type 0) (call : Call P)
        → (Does (Ok _) new → FrameEffect old call (quiet Done) new)
        → ((error : IceError) → Does (Err error) new → new ≡ old)
        → ((error : IceError) → FrameEffect old call (quiet (Rejected error)) old)
        → MayDo Does s e new t → FrameEffect old call e new
    done_or Does call done kept rejected (Ok _, is, h, drawn) = subst (λ (x : Entry). FrameEffect old call x new) (sym is) (done h)
    done_or Does call done kept rejected (Err error, is, h, drawn) = unmoved call (quiet (Rejected error)) is (kept error h) (rejected error)

    -- a call that may select another path
    chosen : {A : Type 0} (to_answer : A → Answer) (Does : A → AgentRecord H P → Type 0) (call : Call P)
        → ((mid : AgentRecord H P) (r : A) → Does r mid → Alike old mid)
        → ((answer : Answer) (path : Option Path) → Alike old new → FrameEffect old call (choosing answer path) new)
        → MaySelect to_answer Does old s e new t → FrameEffect old call e new
    chosen to_answer Does call does effect (r, emitted, is, (path, mid, h, again, out), drawn) =
        subst (λ (x : Entry). FrameEffect old call x new)
        (sym (is ∙ ap (λ (x : Emitted). let f : Entry = record { answer = to_answer r; emitted = x } in f) out))
        (effect (to_answer r) path (reselects (loses_selected old mid) old mid new path (does mid r h) again))

    alike_done : (call : Call P) (answer : Answer) → e ≡ quiet answer → FrameEffect old call (quiet answer) new → FrameEffect old call e new
    alike_done call answer is h = subst (λ (x : Entry). FrameEffect old call x new) (sym is) h

    retransmits : (b : Bool) (n : ℕ) → MatchBool b ((e ≡ quiet NotCalled) × (new ≡ old) × (t ≡ s)) (Becomes (with_retransmits n old) s e new t)
        → FrameEffect old (SetMaxStunRetransmits n) e new
    retransmits true n (is, made, drawn) = unmoved (SetMaxStunRetransmits n) (quiet NotCalled) is made
        (plain old old _ _ refl refl refl refl refl refl refl (inl refl) (inl refl) (λ q h. absurd h.3) (λ at by m h. absurd h))
    retransmits false n (is, made, drawn) = moved old new (with_retransmits n old) (SetMaxStunRetransmits n) e (quiet Done) is made
        (plain old _ _ _ refl refl refl refl refl refl refl (inl refl) (inl refl) (λ q h. absurd h.3) (λ at by m h. absurd h))

    receives : (now : ℕ) (path : Path) (bytes : List ℕ) → Receives mac answers now old path bytes e new → FrameEffect old (ReceivePacket now path bytes) e new
    receives now path bytes (inl (fault, has, is, made)) = unmoved _ (quiet (Unparsed fault)) is made
        (plain old old _ _ refl refl refl refl refl refl refl (inl refl) (inl refl) (λ q h. (let no : Unparsed fault ≡ Flag true = h.3.3 in cc)) (λ at by m h. (let no : Unparsed fault ≡ Flag true = h.3 in cc)))
    receives now path bytes (inr (m, reads, (Ok false, emitted, is, (unaccepted, emitted_is, made)))) =
        unmoved _ (quiet (Flag false)) (is ∙ ap (λ (x : Emitted). let f : Entry = record { answer = Flag false; emitted = x } in f) emitted_is) made
        (plain old old _ _ refl refl refl refl refl refl refl (inl refl) (inl refl) (λ q h. (let no : Flag false ≡ Flag true = h.3.3 in cc)) (λ at by n h. (let no : Flag false ≡ Flag true = h.3 in cc)))
    receives now path bytes (inr (m, reads, (Ok true, emitted, is, (accepted, (mid, takes, made))))) =
        moved old new (discovered_emitted m.class emitted path mid) _ e _ is made (taken mac now old mid path bytes m emitted reads m.class refl takes)
    receives now path bytes (inr (m, reads, (Err error, emitted, is, (may, emitted_is, made)))) =
        unmoved _ (quiet (Rejected error)) (is ∙ ap (λ (x : Emitted). let f : Entry = record { answer = Rejected error; emitted = x } in f) emitted_is) made
        (plain old old _ _ refl refl refl refl refl refl refl (inl refl) (inl refl) (λ q h. (let no : Rejected error ≡ Flag true = h.3.3 in cc)) (λ at by n h. (let no : Rejected error ≡ Flag true = h.3 in cc)))

    timeouts : (now : ℕ) (r : Result (Unit {0}) IceError) (emitted : Emitted) → e ≡ record { answer = answer_by done r; emitted = emitted } → TimesOut mac now old s r emitted new t
        → FrameEffect old (HandleTimeout now) e new
    timeouts now (Ok _) emitted is h = subst (λ (x : Entry). FrameEffect old (HandleTimeout now) x new) (sym is)
        (timeout_by mac now old new s t emitted (request_at now old) refl h)
    timeouts now (Err error) emitted is (may, emitted_is, made, drawn) =
        unmoved _ (quiet (Rejected error)) (is ∙ ap (λ (x : Emitted). let f : Entry = record { answer = Rejected error; emitted = x } in f) emitted_is) made
        (record {
          provider = refl;
          tie_breaker = refl;
          lite = refl;
          keeping = refl;
          local_creds = refl;
          remote_creds = refl;
          sends = refl;
          waits = rejected_waits (request_at now old);
          role = inl refl;
          settled = λ q h past. (let no : Rejected error ≡ Done = h.1 in cc);
          keeps = λ _. inl refl;
          expired = λ _ at by m h. absurd h;
        }) where
          rejected_waits : (o : Option RequestRecord) → WaitsPast o (Rejected error) old.queue old.queue
          rejected_waits None = ([], refl)
          rejected_waits (Some q) = refl

    pub framed : (call : Call P) → Step mac answers old s call e new t → FrameEffect old call e new
    framed (SetMtu target warn) h = done_or (SetsMtu old target warn) (SetMtu target warn)
        (λ k. moved old new _ _ _ _ refl k.1 (plain old _ _ _ refl refl refl refl refl refl refl (inl refl) (inl refl) (λ q h. absurd h.3) (λ at by m h. absurd h)))
        (λ error k. mtu_kept old new target warn error k)
        (λ error. plain old old _ _ refl refl refl refl refl refl refl (inl refl) (inl refl) (λ q h. absurd h.3) (λ at by m h. absurd h)) h
    framed (SetControlTieBreaker tie) (is, made, drawn) = moved old new _ _ e _ is made (plain old _ _ _ refl refl refl refl refl refl refl (inl refl) (inl refl) (λ q h. absurd h.3) (λ at by m h. absurd h))
    framed (SetMaxCandidatePairs n) (is, made, drawn) = moved old new _ _ e _ is made (plain old _ _ _ refl refl refl refl refl refl refl (inl refl) (inl refl) (λ q h. absurd h.3) (λ at by m h. absurd h))
    framed (SetMaxDiscovered n) (is, made, drawn) = moved old new _ _ e _ is made (plain old _ _ _ refl refl refl refl refl refl refl (inl refl) (inl refl) (λ q h. absurd h.3) (λ at by m h. absurd h))
    framed (SetMaxCandidates n) (is, made, drawn) = moved old new _ _ e _ is made (plain old _ _ _ refl refl refl refl refl refl refl (inl refl) (inl refl) (λ q h. absurd h.3) (λ at by m h. absurd h))
    framed (SetIceLite lite) (is, made, drawn) = moved old new _ _ e _ is made (plain old _ _ _ refl refl refl refl refl refl refl (inl refl) (inl refl) (λ q h. absurd h.3) (λ at by m h. absurd h))
    framed (SetRenomination on) (is, made, drawn) = moved old new _ _ e _ is made (plain old _ _ _ refl refl refl refl refl refl refl (inl refl) (inl refl) (λ q h. absurd h.3) (λ at by m h. absurd h))
    framed (SetProfile profile) (is, made, drawn) = moved old new _ _ e _ is made (plain old _ _ _ refl refl refl refl refl refl refl (inl refl) (inl refl) (λ q h. absurd h.3) (λ at by m h. absurd h))
    framed (SetConsent consent) (is, made, drawn) = moved old new _ _ e _ is made (plain old _ _ _ refl refl refl refl refl refl refl (inl refl) (inl refl) (λ q h. absurd h.3) (λ at by m h. absurd h))
    framed (SetTimingAdvance by) (is, made, drawn) = moved old new _ _ e _ is made (plain old _ _ _ refl refl refl refl refl refl refl (inl refl) (inl refl) (λ q h. absurd h.3) (λ at by m h. absurd h))
    framed (SetInitialStunRto rto) (is, made, drawn) = moved old new (with_rtos rto old.timing.max_rto.0 old) _ e _ is made (plain old (with_rtos rto old.timing.max_rto.0 old) _ _ refl refl refl refl refl refl refl (inl refl) (inl refl) (λ q h. absurd h.3) (λ at by m h. absurd h))
    framed (SetMaxStunRto rto) (is, made, drawn) = moved old new (with_rtos old.timing.initial_rto.0 rto old) _ e _ is made (plain old (with_rtos old.timing.initial_rto.0 rto old) _ _ refl refl refl refl refl refl refl (inl refl) (inl refl) (λ q h. absurd h.3) (λ at by m h. absurd h))
    framed (SetMaxStunRetransmits n) h = retransmits (n == 0) n h
    framed (SetLiteTimeout by) (is, made, drawn) = moved old new _ _ e _ is made (plain old _ _ _ refl refl refl refl refl refl refl (inl refl) (inl refl) (λ q h. absurd h.3) (λ at by m h. absurd h))
    framed (SetLocalPreference object) (is, made, drawn) = moved old new _ _ e _ is made (plain old _ _ _ refl refl refl refl refl refl refl (inl refl) (inl refl) (λ q h. absurd h.3) (λ at by m h. absurd h))
    framed (SetControlling controlling) (is, made, drawn) = moved old new (controlling_set controlling old) _ e _ is made
        (plain old (controlling_set controlling old) _ _ refl refl refl refl refl refl refl (inl refl) (set-or-left (keeps_role old && controlling) old.controlling controlling) (λ q h. absurd h.3) (λ at by m h. absurd h))
    framed (SetLocalCredentials creds) h = done_or (SetsLocal old creds) (SetLocalCredentials creds)
        (λ k. moved old new _ _ _ _ refl k.1 (plain old _ _ _ refl refl refl refl refl refl refl (inl refl) (inl refl) (λ q h. absurd h.3) (λ at by m h. absurd h)))
        (λ error k. local_kept old new creds error k)
        (λ error. plain old old _ _ refl refl refl refl refl refl refl (inl refl) (inl refl) (λ q h. absurd h.3) (λ at by m h. absurd h)) h
    framed (SetRemoteCredentials creds) h = done_or (SetsRemote old creds) (SetRemoteCredentials creds)
        (λ k. moved old new _ _ _ _ refl k.1 (plain old _ _ _ refl refl refl refl refl refl refl (inl refl) (inl refl) (λ q h. absurd h.3) (λ at by m h. absurd h)))
        (λ error k. remote_kept old new creds error k)
        (λ error. plain old old _ _ refl refl refl refl refl refl refl (inl refl) (inl refl) (λ q h. absurd h.3) (λ at by m h. absurd h)) h
    framed (SkipPairIds n) (is, made, drawn) = moved old new _ _ e _ is made (plain old _ _ _ refl refl refl refl refl refl refl (inl refl) (inl refl) (λ q h. absurd h.3) (λ at by m h. absurd h))
    framed (AddLocalCandidate c) h = chosen (answer_by added) (AddsLocal answers old c) (AddLocalCandidate c) (λ mid r k. adds_local answers old mid c r k)
        (λ answer path k. alike old new _ answer path k refl refl refl
        (same-either (is_done answer) old.local_creds) (same-either (is_done answer) old.remote_creds)
        (λ k. k) (λ k. inl k) (λ q h. absurd h.3) (λ at by m h. absurd h)) h
    framed (AddRemoteCandidate c) h = chosen (answer_by done) (AddsRemote old c) (AddRemoteCandidate c) (λ mid r k. adds_remote old mid c r k)
        (λ answer path k. alike old new _ answer path k refl refl refl
        (same-either (is_done answer) old.local_creds) (same-either (is_done answer) old.remote_creds)
        (λ k. k) (λ k. inl k) (λ q h. absurd h.3) (λ at by m h. absurd h)) h
    framed (InvalidateCandidate c) h = chosen Flag (Invalidates old c) (InvalidateCandidate c) (λ mid r k. invalidates old mid c r k)
        (λ answer path k. alike old new _ answer path k refl refl refl
        (same-either (is_done answer) old.local_creds) (same-either (is_done answer) old.remote_creds)
        (λ k. k) (λ k. inl k) (λ q h. absurd h.3) (λ at by m h. absurd h)) h
    framed (RestartIce creds keep) h = done_or (Restarts old creds keep) (RestartIce creds keep)
        (λ k. moved old new (restarted creds keep old) _ _ _ refl k.1 (plain old (restarted creds keep old) _ _ refl refl refl refl refl refl (refl, refl) refl (inl refl) (λ q h. absurd h.3) (λ at by m h. absurd h)))
        (λ error k. restart_kept old new creds keep error k)
        (λ error. plain old old _ _ refl refl refl refl refl refl (refl, refl) refl (inl refl) (λ q h. absurd h.3) (λ at by m h. absurd h)) h
    framed RecreateCandidatePairs h = done_or (Recreates old) RecreateCandidatePairs
        (λ k. recreated k)
        (λ error k. recreation_kept old new error k)
        (λ error. plain old old _ _ refl refl refl refl refl refl refl (inl refl) (inl refl) (λ q h. absurd h.3) (λ at by m h. absurd h)) h where
          recreated : Recreates old (Ok _) new → FrameEffect old RecreateCandidatePairs (quiet Done) new
          recreated (enough, forms) =
              alike old new _ Done None (forms_alike (emptied old) new _ forms)
              refl refl refl refl refl (λ k. k) (λ k. inl k) (λ q h. absurd h.3) (λ at by m h. absurd h)
    framed (ReceivePacket now path bytes) h = receives now path bytes h.0
    framed (HandleTimeout now) (r, emitted, is, h) = timeouts now r emitted is h
    framed PollTransmit (given, is, (polled, made), drawn) = moved old new (record old { packets = new.packets }) _ e _ is made
        (plain old (record old { packets = new.packets }) _ _ refl refl refl refl refl refl (given, refl, polled) (inl refl) (inl refl) (λ q h. absurd h.3) (λ at by m h. absurd h))
    framed PollTimeout (deadline, is, h, drawn) = alike_done _ (NextTimeout deadline) is
        (alike old new _ (NextTimeout deadline) None (by_waking old new deadline h
        (λ made. same_record old new made)
        (λ at made. same_record (record old { pairs = map (scheduled at old.timing) old.pairs }) new made)) refl refl refl refl refl (λ k. k) (λ k. inl k) (λ q h. absurd h.3) (λ at by m h. absurd h))
    framed PollEvent (given, is, (polled, made), drawn) = moved old new (record old { events = new.events }) _ e _ is made
        (plain old (record old { events = new.events }) _ _ refl refl refl refl refl refl refl (inl refl) (inl refl) (λ q h. absurd h.3) (λ at by m h. absurd h))

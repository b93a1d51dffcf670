-- A request gets a response if and only if there is no reason against one, and the reason does not depend on its time.
use Rattle.std.proofs.Common.{◌≡◌, ℕ, Bool, true, false, not, List, length, Option, Some, None, refl, ap, sym, subst, ◌∙◌}
use Rattle.std.proofs.Math.Path.{fun_ext}
use Rattle.std.specs.Prelude.{MatchBool, MatchOption, IfSome, is_some, if◌then◌else◌}
use Rattle.std.specs.List.{list_any}
use Rattle.is_candidate.specs.Candidates.{CandidateRecord, candidate_at}
use Rattle.is_rules.specs.declared.credentials.IceCreds.{IceCreds}
use Rattle.is_rules.specs.declared.emitted.Emitted.{Emitted}
use Rattle.is_rules.specs.declared.places.RemotePlace.{RemotePlace}
use Rattle.is_rules.specs.declared.places.RemotePlace.TheVariants.{Known, Barred, Unknown, Vacant, Full}
use Rattle.is_rules.specs.declared.roles.Conflict.{Conflict}
use Rattle.is_rules.specs.declared.roles.Conflict.TheVariants.{Absent, Send487, SwitchRole}
use Rattle.is_rules.specs.declared.serving.Places.{Places}
use Rattle.is_rules.specs.Agent.{AgentRecord}
use Rattle.is_rules.specs.Emitted.{nothing_emitted}
use Rattle.is_rules.specs.Forming.{formed, with_pair}
use Rattle.is_rules.specs.Limit.{IsSenderPlace}
use Rattle.is_rules.specs.Places.{first_place, is_live, is_sender, place_by, IsGreatestPlace, local_place}
use Rattle.is_rules.specs.declared.emitted.Path.{Path}
use Rattle.is_rules.specs.Request.{RequestRecord, request_in}
use Rattle.is_stun.specs.Message.{Message}
use Rattle.is_rules.specs.Roles.{conflict_of, switched}
use Rattle.is_rules.specs.Serving.{is_for_other_peer, is_misled, is_487, lacks_number, request_counted, role_after, with_sender, with_sender_at}
use Rattle.is_rules.specs.Serving.{Chooses, Drops, Queues, SendsRoleConflict, Serves, ServesAt}
use Rattle.is_rules.proofs.ServedRequests.RulesInTurn.{FromCount, FromPair, FromSender, RecordsAndResponds}
use Rattle.is_agent.specs.declared.unserved.Unserved.{Unserved}
use Rattle.is_agent.specs.declared.unserved.Unserved.TheVariants.{Early, OtherDestination, UseCandidate, SenderInvalidated, SendersAtLimit, LocalInvalidated}
use Rattle.is_agent.specs.Ready.{NamesPeer}
use Rattle.is_agent.specs.Unserved.{unserved_without, unserved_at, unserved_by, IsUnservedIn, IsUnservedHere, IsUnserved, HasOneReason, ReportsResponse}

-- ---- the response

abbrev Says : Emitted → Option Unserved → Type 0
Says emitted why = is_some emitted.issued ≡ not (is_some why)

drops : (emitted : Emitted) (why : Option Unserved) (reason : Unserved) → emitted ≡ nothing_emitted → why ≡ Some reason → Says emitted why
drops emitted why reason is because = ap (λ (e : Emitted). is_some e.issued) is ∙ sym (ap (λ (w : Option Unserved). not (is_some w)) because)

responds : (emitted : Emitted) (why : Option Unserved) → is_some emitted.issued ≡ true → why ≡ None → Says emitted why
responds emitted why is none = is ∙ sym (ap (λ (w : Option Unserved). not (is_some w)) none)

no-second : (d : Bool) (number : ℕ) → unserved_without (Some number) d ≡ None
no-second true number = refl
no-second false number = refl

module _ {H P : Type 0} (mac : H → List ℕ → List ℕ → List ℕ) (q : RequestRecord) (emitted : Emitted) (new : AgentRecord H P) (why : Option Unserved) where
  issues : (l r number : ℕ) (s : AgentRecord H P) → RecordsAndResponds mac q l r number s emitted new → is_some emitted.issued ≡ true
  issues l r number s h = ap (λ (e : Emitted). is_some e.issued) h.3.1

  by_pair : (l r : ℕ) (pair : Option ℕ) (s : AgentRecord H P) → why ≡ unserved_without pair (candidate_at s.local l).discarded
      → FromPair mac q l r pair s emitted new → Says emitted why
  by_pair l r (Some number) s is h = responds emitted why (issues l r number s h) (is ∙ no-second (candidate_at s.local l).discarded number)
  by_pair l r None s is h = by (candidate_at s.local l).discarded is h where
    by : (d : Bool) → why ≡ unserved_without None d
        → MatchOption (if d then None else Some s.next_number) (Drops s emitted new)
        (λ number. RecordsAndResponds mac q l r number (if d then s else with_pair (formed s l r) s) emitted new) → Says emitted why
    by true because dropped = drops emitted why LocalInvalidated dropped.0 because
    by false none adds = responds emitted why (issues l r s.next_number (with_pair (formed s l r) s) adds) none

  by_sender : (l : ℕ) (place : RemotePlace) (pair : Option ℕ) (s : AgentRecord H P) → why ≡ unserved_at place pair (candidate_at s.local l).discarded
      → FromSender mac q l place pair s emitted new → Says emitted why
  by_sender l (Known r) pair s is h = by_pair l r pair s is h
  by_sender l Barred pair s is h = drops emitted why SenderInvalidated h.0 is
  by_sender l Unknown pair s is h = by_pair l (length s.remote) pair (with_sender q s) is h
  by_sender l (Vacant r) pair s is h = by_pair l r pair (with_sender_at r q s) is h
  by_sender l Full pair s is h = drops emitted why SendersAtLimit h.0 is

  by_count : (l : ℕ) (place : RemotePlace) (pair : Option ℕ) (s : AgentRecord H P) (b : Bool)
      → why ≡ (if b then Some UseCandidate else unserved_at place pair (candidate_at s.local l).discarded)
      → MatchBool b (Drops s emitted new) (FromSender mac q l place pair (request_counted s) emitted new) → Says emitted why
  by_count l place pair s true is h = drops emitted why UseCandidate h.0 is
  by_count l place pair s false is h = by_sender l place pair (request_counted s) is h

  by_role : (l : ℕ) (place : RemotePlace) (pair : Option ℕ) (s : AgentRecord H P) (k : Conflict)
      → why ≡ unserved_by k s.controlling q (unserved_at place pair (candidate_at s.local l).discarded)
      → MatchBool (is_487 k) (SendsRoleConflict mac q s emitted new) (FromCount mac q l place pair (role_after k s) emitted new) → Says emitted why
  by_role l place pair s Absent is h = by_count l place pair s (is_misled s.controlling q) is h
  by_role l place pair s Send487 is h = responds emitted why (ap (λ (e : Emitted). is_some e.issued) h.1) is
  by_role l place pair s SwitchRole is h = by_count l place pair (switched s) (is_misled (not s.controlling) q) is h

  by_choice : (a : AgentRecord H P) (choice : Option Places) → is_for_other_peer a q ≡ false → HasOneReason a q → IsUnservedHere a q why
      → Chooses a q choice → MatchOption choice (Drops a emitted new) (λ at. (lacks_number a q at ≡ false) × ServesAt mac q at a emitted new) → Says emitted why
  by_choice a None names one is none dropped =
      let nowhere : local_place a.local q ≡ None = subst (λ b. MatchBool b (Unit {0}) (local_place a.local q ≡ None)) names none in
      drops emitted why OtherDestination dropped.0 (subst (λ l. MatchOption l (why ≡ Some OtherDestination) (λ _. IsUnservedIn a q why)) nowhere is)
  by_choice a (Some at) names one is chosen (left, served) =
      let here : IsUnservedIn a q why = subst (λ l. MatchOption l (why ≡ Some OtherDestination) (λ _. IsUnservedIn a q why)) chosen.1 is in
      by_role at.local at.remote at.pair a (conflict_of a q) (here.2 ∙ one here.0 at here.1 chosen) served

module _ {H P : Type 0} (mac : H → List ℕ → List ℕ → List ℕ) where
  pub reports : (a : AgentRecord H P) (q : RequestRecord) (why : Option Unserved) → NamesPeer a q → IsUnserved a q why → ReportsResponse mac a q why
  reports a q why names is one emitted new h = by a.remote_creds names is h where
    by : (creds : Option IceCreds) → IfSome creds (λ _. is_for_other_peer a q ≡ false) → MatchOption creds (why ≡ Some Early) (λ _. IsUnservedHere a q why)
        → MatchOption creds (Queues q a emitted new) (λ _. Serves mac q a emitted new) → Says emitted why
    by None names because queues = drops emitted why Early queues.0 because
    by (Some creds) names is (choice, chosen, served) = by_choice mac q emitted new why a choice names one is chosen served

-- ---- the time of a request does not matter

module _ {H P : Type 0} (a : AgentRecord H P) (path : Path) (m : Message) (before now : ℕ) where
  same-sender : is_sender (request_in before path m) ≡ is_sender (request_in now path m)
  same-sender = fun_ext (λ c. refl)

  same-place : local_place a.local (request_in before path m) ≡ local_place a.local (request_in now path m)
  same-place = ap (λ (f : CandidateRecord → Bool). first_place f a.local) (fun_ext (λ c. refl))

  sender-later : (place : RemotePlace) → IsSenderPlace a (request_in before path m) place → IsSenderPlace a (request_in now path m) place
  sender-later place (found, is, settles) =
      (found, subst (λ (f : CandidateRecord → Bool). (live : Option ℕ) × IsGreatestPlace (is_live f) a.remote live × (found ≡ place_by live (list_any f a.remote))) same-sender is, settles)

  later : (k : Conflict) (controlling : Bool) (rest : Option Unserved)
      → unserved_by k controlling (request_in before path m) rest ≡ unserved_by k controlling (request_in now path m) rest
  later Absent controlling rest = refl
  later Send487 controlling rest = refl
  later SwitchRole controlling rest = refl

  in-later : (why : Option Unserved) → IsUnservedIn a (request_in before path m) why → IsUnservedIn a (request_in now path m) why
  in-later why (at, (names, local, sender, pair), is) = (
    at,
    (names, sym same-place ∙ local, sender-later at.remote sender, pair),
    is ∙ later (conflict_of a (request_in now path m)) a.controlling (unserved_at at.remote at.pair (candidate_at a.local at.local).discarded),
  )

  here-later : (why : Option Unserved) → IsUnservedHere a (request_in before path m) why → IsUnservedHere a (request_in now path m) why
  here-later why h = subst (λ (l : Option ℕ). MatchOption l (why ≡ Some OtherDestination) (λ _. IsUnservedIn a (request_in now path m) why)) same-place
      (by (local_place a.local (request_in before path m)) h) where
        by : (l : Option ℕ) → MatchOption l (why ≡ Some OtherDestination) (λ _. IsUnservedIn a (request_in before path m) why)
            → MatchOption l (why ≡ Some OtherDestination) (λ _. IsUnservedIn a (request_in now path m) why)
        by None is = is
        by (Some l) is = in-later why is

  pub unserved-later : (why : Option Unserved) → IsUnserved a (request_in before path m) why → IsUnserved a (request_in now path m) why
  unserved-later why h = by a.remote_creds h where
    by : (creds : Option IceCreds) → MatchOption creds (why ≡ Some Early) (λ _. IsUnservedHere a (request_in before path m) why)
        → MatchOption creds (why ≡ Some Early) (λ _. IsUnservedHere a (request_in now path m) why)
    by None is = is
    by (Some creds) is = here-later why is

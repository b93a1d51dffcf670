-- A step of serving ends it, or the next step follows in the state after it.
use Rattle.std.proofs.Common.{◌≡◌, ℕ, ◌<◌, ◌&&◌, Bool, true, false, not, List, [], ◌∷◌, ◌++◌, length, map, Option, Some, None, refl, ap, sym, ◌∙◌, subst}
use Rattle.std.proofs.lemmas.List.{map-append}
use Rattle.std.specs.Prelude.{MatchBool, MatchOption, is_some, if◌then◌else◌}
use Rattle.is_proto.specs.Packets.{Packet, packet_of}
use Rattle.is_proto.specs.Times.{MAX}
use Rattle.is_proto.specs.declared.proto.Transmit.{Transmit}
use Rattle.is_candidate.specs.Candidates.{CandidateRecord, candidate_at}
use Rattle.is_candidate.specs.Equality.{TEMPORARY}
use Rattle.is_candidate.specs.Making.{peer_reflexive_candidate}
use Rattle.is_rules.specs.declared.credentials.IceCreds.{IceCreds}
use Rattle.is_rules.specs.declared.emitted.Emitted.{Emitted}
use Rattle.is_rules.specs.declared.emitted.Path.{Path}
use Rattle.is_rules.specs.declared.places.RemotePlace.{RemotePlace}
use Rattle.is_rules.specs.declared.places.RemotePlace.TheVariants.{Known, Barred, Unknown, Vacant, Full}
use Rattle.is_rules.specs.declared.roles.Conflict.{Conflict}
use Rattle.is_rules.specs.declared.roles.Conflict.TheVariants.{Absent, Send487, SwitchRole}
use Rattle.is_rules.specs.declared.serving.Places.{Places}
use Rattle.is_rules.specs.declared.serving.Supplies.{Supplies}
use Rattle.is_rules.specs.Agent.{AgentRecord}
use Rattle.is_rules.specs.Emitted.{nothing_emitted}
use Rattle.is_rules.specs.Forming.{formed, with_pair}
use Rattle.is_rules.specs.Nominating.{NominatesWhere}
use Rattle.is_rules.specs.Request.{RequestRecord}
use Rattle.is_rules.specs.Sending.{path_between}
use Rattle.is_rules.specs.Serving.{evaluates_at, is_487, is_admitted, is_misled, needs_pair_at, pair_added, pair_number, pair_served, request_counted, role_after}
use Rattle.is_rules.specs.Serving.{role_resolved, sender_added, sender_at, sender_index, sends_487, triggered_time, Drops, Replies, SendsRoleConflict, Serves, ServesAt}
use Rattle.is_rules.specs.StateUpdates.{state_updated}
use Rattle.is_agent.specs.Ready.{IsPlan}
use Rattle.is_rules.proofs.ServedRequests.RulesInTurn.{FromCount, FromPair, FromSender, RecordsAndResponds}

-- the packets after one was queued
pub packet-queued : (queue : List Transmit) (t : Transmit) {p : Packet} {after : List Transmit} → after ≡ queue ++ t ∷ [] → packet_of t ≡ p
    → map packet_of after ≡ map packet_of queue ++ p ∷ []
packet-queued queue t after-is as-is =
    ap (map packet_of) after-is ∙ map-append packet_of queue (t ∷ []) ∙ ap (λ q. map packet_of queue ++ q ∷ []) as-is

needed : (pair : Option ℕ) (d : Bool) → pair ≡ None → d ≡ false → (not (is_some pair) && not d) ≡ true
needed None true none live = absurd (cc)
needed None false none live = refl
needed (Some number) d none live = absurd (cc)

placed : (remote : List CandidateRecord) (place : RemotePlace) (r : ℕ) (pair : Option ℕ) (d : Bool) → sender_index remote place ≡ Some r
    → pair ≡ None → d ≡ false → needs_pair_at place pair d ≡ true
placed remote (Known k) r pair d is none live = needed pair d none live
placed remote Barred r pair d is none live = absurd (let no : None ≡ Some r = is in cc)
placed remote Unknown r pair d is none live = needed pair d none live
placed remote (Vacant k) r pair d is none live = needed pair d none live
placed remote Full r pair d is none live = absurd (let no : None ≡ Some r = is in cc)

-- ---- what the steps before a pair is added leave as it is

module _ {H P : Type 0} where
  pub record Kept (s t : AgentRecord H P) : Type 0 where
    pub local : t.local ≡ s.local
    pub remote : t.remote ≡ s.remote
    pub creds : t.local_creds ≡ s.local_creds
    pub number : t.next_number ≡ s.next_number

  pub role-kept : (k : Conflict) (s : AgentRecord H P) → Kept s (request_counted (role_after k s))
  role-kept Absent s = record { local = refl; remote = refl; creds = refl; number = refl }
  role-kept Send487 s = record { local = refl; remote = refl; creds = refl; number = refl }
  role-kept SwitchRole s = record { local = refl; remote = refl; creds = refl; number = refl }

  sender-local : (q : RequestRecord) (place : RemotePlace) (s : AgentRecord H P) → (sender_added q place s).local ≡ s.local
  sender-local q (Known r) s = refl
  sender-local q Barred s = refl
  sender-local q Unknown s = refl
  sender-local q (Vacant r) s = refl
  sender-local q Full s = refl

  sender-number : (q : RequestRecord) (place : RemotePlace) (s : AgentRecord H P) → (sender_added q place s).next_number ≡ s.next_number
  sender-number q (Known r) s = refl
  sender-number q Barred s = refl
  sender-number q Unknown s = refl
  sender-number q (Vacant r) s = refl
  sender-number q Full s = refl

  -- the candidate that the sender becomes
  pub sender-same : (q : RequestRecord) (place : RemotePlace) (s t : AgentRecord H P) → t.local_creds ≡ s.local_creds → sender_at s q place ≡ sender_at t q place
  sender-same q (Known r) s t same = refl
  sender-same q Barred s t same = refl
  sender-same q Unknown s t same =
      ap (λ (c : IceCreds). Some (peer_reflexive_candidate (Some TEMPORARY) q.path.proto q.priority q.path.source q.path.source c.ufrag)) (sym same)
  sender-same q (Vacant r) s t same =
      ap (λ (c : IceCreds). Some (peer_reflexive_candidate (Some TEMPORARY) q.path.proto q.priority q.path.source q.path.source c.ufrag)) (sym same)
  sender-same q Full s t same = refl

  -- a request that gets no 487 and does not mislead is admitted
  admitted : (k : Conflict) (q : RequestRecord) (s : AgentRecord H P) → is_487 k ≡ false → is_misled (role_after k s).controlling q ≡ false
      → is_admitted k s.controlling q ≡ true
  admitted Absent q s answered led = ap not led
  admitted Send487 q s answered led = absurd (let no : true ≡ false = answered in cc)
  admitted SwitchRole q s answered led = ap not led

  -- a number is left for the pair that is added
  pub number-left : (k : Conflict) (q : RequestRecord) (at : Places) (r : ℕ) (s t : AgentRecord H P) (remote : List CandidateRecord)
      → t ≡ sender_added q at.remote (request_counted (role_after k s)) → is_487 k ≡ false → is_misled (role_after k s).controlling q ≡ false
      → sender_index remote at.remote ≡ Some r
      → ((is_admitted k s.controlling q && needs_pair_at at.remote at.pair (candidate_at s.local at.local).discarded) ≡ true → s.next_number < MAX)
      → at.pair ≡ None → (candidate_at t.local at.local).discarded ≡ false → t.next_number < MAX
  number-left k q at r s t remote made answered led index left none live =
      let counted : AgentRecord H P = request_counted (role_after k s) in
      let local : t.local ≡ s.local = ap (λ (a : AgentRecord H P). a.local) made ∙ sender-local q at.remote counted ∙ (role-kept k s).local in
      let number : t.next_number ≡ s.next_number =
      ap (λ (a : AgentRecord H P). a.next_number) made ∙ sender-number q at.remote counted ∙ (role-kept k s).number in
      let living : (candidate_at s.local at.local).discarded ≡ false =
      ap (λ (cs : List CandidateRecord). (candidate_at cs at.local).discarded) (sym local) ∙ live in
      let lacking : needs_pair_at at.remote at.pair (candidate_at s.local at.local).discarded ≡ true =
      placed remote at.remote r at.pair (candidate_at s.local at.local).discarded index none living in
      let all : (is_admitted k s.controlling q && needs_pair_at at.remote at.pair (candidate_at s.local at.local).discarded) ≡ true =
      ap (λ b. b && needs_pair_at at.remote at.pair (candidate_at s.local at.local).discarded) (admitted k q s answered led) ∙ lacking in
      subst (λ n. n < MAX) (sym number) (left all)

-- ---- the steps

module _ {H P : Type 0} (mac : H → List ℕ → List ℕ → List ℕ) (q : RequestRecord) (emitted : Emitted) (new : AgentRecord H P) where
  pub as-planned : (at : Places) (supplies : Supplies) (s : AgentRecord H P) → IsPlan s q (Some (at, supplies)) → ServesAt mac q at s emitted new
      → Serves mac q s emitted new
  as-planned at supplies s is served = (Some at, is.0, (is.1, served))

  pub answered-487 : (at : Places) (s : AgentRecord H P) → sends_487 s q ≡ true → SendsRoleConflict mac q s emitted new → ServesAt mac q at s emitted new
  answered-487 at s is h =
      subst (λ b. MatchBool b (SendsRoleConflict mac q s emitted new) (FromCount mac q at.local at.remote at.pair (role_resolved q s) emitted new)) (sym is) h

  pub resolved : (at : Places) (s t : AgentRecord H P) → sends_487 s q ≡ false → t ≡ role_resolved q s
      → FromCount mac q at.local at.remote at.pair t emitted new → ServesAt mac q at s emitted new
  resolved at s t is made h =
      subst (λ b. MatchBool b (SendsRoleConflict mac q s emitted new) (FromCount mac q at.local at.remote at.pair (role_resolved q s) emitted new)) (sym is)
      (subst (λ (a : AgentRecord H P). FromCount mac q at.local at.remote at.pair a emitted new) made h)

  pub misled : (l : ℕ) (place : RemotePlace) (pair : Option ℕ) (s : AgentRecord H P) → is_misled s.controlling q ≡ true → Drops s emitted new
      → FromCount mac q l place pair s emitted new
  misled l place pair s is h =
      subst (λ b. MatchBool b (Drops s emitted new) (FromSender mac q l place pair (request_counted s) emitted new)) (sym is) h

  pub counted : (l : ℕ) (place : RemotePlace) (pair : Option ℕ) (s t : AgentRecord H P) → is_misled s.controlling q ≡ false → t ≡ request_counted s
      → FromSender mac q l place pair t emitted new → FromCount mac q l place pair s emitted new
  counted l place pair s t is made h =
      subst (λ b. MatchBool b (Drops s emitted new) (FromSender mac q l place pair (request_counted s) emitted new)) (sym is)
      (subst (λ (a : AgentRecord H P). FromSender mac q l place pair a emitted new) made h)

  pub nowhere : (l : ℕ) (place : RemotePlace) (pair : Option ℕ) (s : AgentRecord H P) → sender_index s.remote place ≡ None
      → emitted ≡ nothing_emitted → new ≡ sender_added q place s → FromSender mac q l place pair s emitted new
  nowhere l (Known r) pair s none is made = absurd (let no : Some r ≡ None = none in cc)
  nowhere l Barred pair s none is made = (is, made)
  nowhere l Unknown pair s none is made = absurd (let no : Some (length s.remote) ≡ None = none in cc)
  nowhere l (Vacant r) pair s none is made = absurd (let no : Some r ≡ None = none in cc)
  nowhere l Full pair s none is made = (is, made)

  pub joined : (l r : ℕ) (place : RemotePlace) (pair : Option ℕ) (s t : AgentRecord H P) → sender_index s.remote place ≡ Some r
      → t ≡ sender_added q place s → FromPair mac q l r pair t emitted new → FromSender mac q l place pair s emitted new
  joined l r place pair s t is made h =
      subst (λ o. MatchOption o (Drops s emitted new) (λ r. FromPair mac q l r pair (sender_added q place s) emitted new)) (sym is)
      (subst (λ (a : AgentRecord H P). FromPair mac q l r pair a emitted new) made h)

  pub unpaired : (l r : ℕ) (pair : Option ℕ) (s : AgentRecord H P) → pair_number l pair s ≡ None → emitted ≡ nothing_emitted → new ≡ pair_added l r pair s
      → FromPair mac q l r pair s emitted new
  unpaired l r (Some number) s none is made = absurd (let no : Some number ≡ None = none in cc)
  unpaired l r None s none is made = by (candidate_at s.local l).discarded none made where
    by : (d : Bool) → (if d then None else Some s.next_number) ≡ None → new ≡ (if d then s else with_pair (formed s l r) s)
        → MatchOption (if d then None else Some s.next_number) (Drops s emitted new) (λ number. RecordsAndResponds mac q l r number (if d then s else with_pair (formed s l r) s) emitted new)
    by true none made = (is, made)
    by false none made = absurd (let no : Some s.next_number ≡ None = none in cc)

  pub paired : (l r number : ℕ) (pair : Option ℕ) (s t : AgentRecord H P) → pair_number l pair s ≡ Some number → t ≡ pair_added l r pair s
      → RecordsAndResponds mac q l r number t emitted new → FromPair mac q l r pair s emitted new
  paired l r number pair s t is made h =
      subst (λ o. MatchOption o (Drops s emitted new) (λ number. RecordsAndResponds mac q l r number (pair_added l r pair s) emitted new)) (sym is)
      (subst (λ (a : AgentRecord H P). RecordsAndResponds mac q l r number a emitted new) made h)

  pub responded : (l r number now : ℕ) (via : Path) (evaluates changes : Bool) (path : Option Path) (s served mid t : AgentRecord H P)
      → via ≡ path_between s l r → now ≡ triggered_time q s → evaluates ≡ evaluates_at number s → served ≡ pair_served q number s
      → NominatesWhere evaluates served path mid → changes ≡ is_some path → t ≡ state_updated changes now mid → Replies mac q via path t emitted new
      → RecordsAndResponds mac q l r number s emitted new
  responded l r number now via evaluates changes path s served mid t via-is now-is evaluates-is served-is nominates changes-is settled-is replies =
      let there : NominatesWhere evaluates (pair_served q number s) path mid =
      subst (λ (a : AgentRecord H P). NominatesWhere evaluates a path mid) served-is nominates in
      let made : t ≡ state_updated (is_some path) (triggered_time q s) mid =
      settled-is ∙ ap (λ b. state_updated b now mid) changes-is ∙ ap (λ n. state_updated (is_some path) n mid) now-is in (
        path,
        mid,
        subst (λ b. NominatesWhere b (pair_served q number s) path mid) evaluates-is there,
        subst (λ v. Replies mac q v path (state_updated (is_some path) (triggered_time q s) mid) emitted new) via-is
            (subst (λ (a : AgentRecord H P). Replies mac q via path a emitted new) made replies),
      )

-- The guarantees for the agent at the other end, from the two theorems about effects only.
use Rattle.is_theorems.proofs.Common.{[], ◌&&◌, ◌++◌, ◌||◌, ◌∙◌, ◌∷◌, ◌≡◌, ◌⊎◌, Absent, AgentRecord, Answer, ap, arith, AttributesRecord}
use Rattle.is_theorems.proofs.Common.{Bool, Brings, Call, CandidateRecord, Check, Class, conflict_by, Done, Emitted, Entry, false, fault_of}
use Rattle.is_theorems.proofs.Common.{Flag, HandleTimeout, Has, IceCreds, if◌then◌else◌, inl, inr, is_for_other_peer, is_some, is_valid}
use Rattle.is_theorems.proofs.Common.{IsAnswered, IsBrought, IsIssued, IsKept, IsRejectedBy, IsRoleSet, IsServing, IsValidOn, keeps_role}
use Rattle.is_theorems.proofs.Common.{leb_tells, List, lite_set_by, local_place, map, Message, message_of, nat_le, nat_lt, None, not}
use Rattle.is_theorems.proofs.Common.{Option, option_map, option_map_or, Packet, PairRecord, ParseFault, Path, path_of, PathEffect, Reads}
use Rattle.is_theorems.proofs.Common.{ReceivePacket, refl, request_at, request_in, RequestRecord, rival, role_once, same_address}
use Rattle.is_theorems.proofs.Common.{SameMessage, Says, Send487, SetControlling, SetControlTieBreaker, SetIceLite, Some, subst, suc}
use Rattle.is_theorems.proofs.Common.{SwitchRole, sym, tie_set_by, TradeEffect, true, via_out, ℕ}
use Rattle.is_theorems.proofs.CallEffects.PathAndTradeEffects.{path_theorem, trade_theorem}
use Rattle.is_stun.specs.declared.header.Class.TheVariants as class
use Rattle.is_theorems.proofs.BasicLemmas.EqualAddresses.{both, same_address-sound}
use Rattle.is_theorems.specs.RoleState as roles
use Rattle.is_theorems.specs.RoleState.{Mail, Kept, Sent, RoleEvent, RoleEffect}
use Rattle.is_theorems.specs.RoleView.{mail_of, mail_unless, mail_read, mail_in, kept_as, all_kept, all_valid, role_state_of, when_accepted}
use Rattle.is_theorems.specs.RoleView.{when_done, request_when, sent_as, some_paths, sets_role, sets_lite, RoleTheorem, packet_path}
use Rattle.is_theorems.specs.RoleView.{accepted_by, served_by, role_event_of, FreshIsNew}
use Rattle.is_theorems.proofs.RuleEffects.ChangedPairs.{Has-map}
use Rattle.is_theorems.proofs.CallEffects.ServedRequests.{Has-mapped}
use Rattle.is_theorems.proofs.RuleEffects.SelectedPaths.{some_is}

-- ---- lists

Has-cut : {X : Type 0} (xs ys : List X) (x : X) → Has (xs ++ ys) x → Has xs x ⊎ Has ys x
Has-cut [] ys x h = inr h
Has-cut (y ∷ xs) ys x (inl e) = inl (inl e)
Has-cut (y ∷ xs) ys x (inr h) = elim (Has-cut xs ys x h) [ inl k ↦ inl (inr k) | inr k ↦ inr k ]

pub Has-front : {X : Type 0} (xs ys : List X) (x : X) → Has xs x → Has (xs ++ ys) x
Has-front [] ys x h = absurd h
Has-front (y ∷ xs) ys x (inl e) = inl e
Has-front (y ∷ xs) ys x (inr h) = inr (Has-front xs ys x h)

pub Has-rear : {X : Type 0} (xs ys : List X) (x : X) → Has ys x → Has (xs ++ ys) x
Has-rear [] ys x h = h
Has-rear (y ∷ xs) ys x h = inr (Has-rear xs ys x h)

in_paths : (ps : List (Option Path)) (path : Path) → Has (some_paths ps) path → Has ps (Some path)
in_paths [] path h = absurd h
in_paths (Some p ∷ ps) path (inl e) = inl (ap Some e)
in_paths (Some p ∷ ps) path (inr h) = inr (in_paths ps path h)
in_paths (None ∷ ps) path h = inr (in_paths ps path h)

-- ---- what arrived

when_is : {X : Type 0} (a : Answer) (x : Option X) (y : X) → when_accepted a x ≡ Some y → (a ≡ Flag true) × (x ≡ Some y)
when_is (Flag true) x y h = (refl, h)
when_is a x y h = absurd (let wrong : None ≡ Some y = h in cc)

done_is : {X : Type 0} (a : Answer) (x : Option X) (y : X) → when_done a x ≡ Some y → (a ≡ Done) × (x ≡ Some y)
done_is Done x y h = (refl, h)
done_is a x y h = absurd (let wrong : None ≡ Some y = h in cc)

when_request : (f : Option ParseFault) (c : Class) (peer : Option IceCreds) (q r : RequestRecord) → request_when f c peer q ≡ Some r → (f ≡ None) × (c ≡ class.Request) × (is_some peer ≡ true) × (q ≡ r)
when_request None class.Request (Some peer) q r h = (refl, refl, refl, some_is q r h)
when_request f c peer q r h = absurd (let wrong : None ≡ Some r = h in cc)

known_request : (peer : Option IceCreds) (q : RequestRecord) → is_some peer ≡ true → request_when None class.Request peer q ≡ Some q
known_request None q h = let wrong : false ≡ true = h in absurd (cc)
known_request (Some peer) q h = refl

mail_is : (f : Option ParseFault) (m : Message) (x : Mail) → mail_unless f m ≡ Some x → (f ≡ None) × (mail_of m ≡ x)
mail_is None m x h = (refl, some_is (mail_of m) x h)
mail_is (Some fault) m x h = absurd (let wrong : None ≡ Some x = h in cc)

brings_to : {P : Type 0} (call : Call P) (e : Entry) (at : ℕ) (by : Path) (m : Message) → Brings call e at by m → (accepted_by call e.answer ≡ Some (mail_of m)) × (packet_path call ≡ Some by)
brings_to (ReceivePacket now via bytes) e at by m (at_is, by_is, reads, flag) = (
  ap (λ a. when_accepted a (mail_read bytes)) flag ∙ ap (λ f. mail_unless f (message_of bytes)) reads.faultless ∙ ap (λ (x : Message). Some (mail_of x)) (sym reads.spelled),
  ap Some by_is,
)
brings_to call e at by m h = absurd h

brings_is : {P : Type 0} (call : Call P) (e : Entry) (x : Mail) → accepted_by call e.answer ≡ Some x → (at : ℕ) × (by : Path) × (m : Message) × Brings call e at by m × (mail_of m ≡ x)
brings_is (ReceivePacket now via bytes) e x h =
    let k = when_is e.answer (mail_read bytes) x h in
    let r = mail_is (fault_of bytes) (message_of bytes) x k.1 in
    (now, via, message_of bytes, (refl, refl, record { faultless = r.0; spelled = refl }, k.0), r.1)
brings_is call e x h = absurd (let wrong : None ≡ Some x = h in cc)

module _ {H P : Type 0} where
  kept_in : (a : AgentRecord H P) (ps : List PairRecord) (k : Kept) → Has (all_kept a ps) k → (p : PairRecord) × (c : Check) × Has ps p × Has p.checks c × (kept_as (path_of a p) c ≡ k)
  kept_in a [] k h = absurd h
  kept_in a (p ∷ ps) k h = elim (Has-cut (map (kept_as (path_of a p)) p.checks) (all_kept a ps) k h) [
    | inl here ↦ (let o = Has-map (kept_as (path_of a p)) p.checks k here in (p, o.0, inl refl, o.1, o.2))
    | inr rest ↦ (let o = kept_in a ps k rest in (o.0, o.1, inr o.2, o.3, o.4))
  ]

  kept_to : (a : AgentRecord H P) (ps : List PairRecord) (p : PairRecord) (c : Check) → Has ps p → Has p.checks c → Has (all_kept a ps) (kept_as (path_of a p) c)
  kept_to a [] p c h keeps = absurd h
  kept_to a (q ∷ ps) p c (inl e) keeps =
      Has-front (map (kept_as (path_of a q)) q.checks) (all_kept a ps) (kept_as (path_of a p) c)
      (subst (λ (x : PairRecord). Has (map (kept_as (path_of a x)) x.checks) (kept_as (path_of a p) c)) (sym e) (Has-mapped (kept_as (path_of a p)) p.checks c keeps))
  kept_to a (q ∷ ps) p c (inr h) keeps = Has-rear (map (kept_as (path_of a q)) q.checks) (all_kept a ps) (kept_as (path_of a p) c) (kept_to a ps p c h keeps)

  is_kept_in : (a : AgentRecord H P) (k : Kept) → Has (all_kept a a.pairs) k → IsKept a k.path k.id k.controlling
  is_kept_in a k h =
      let o = kept_in a a.pairs k h in
      (o.0, o.1, o.2, o.3, ap (λ (x : Kept). x.id) o.4, ap (λ (x : Kept). x.controlling) o.4, ap (λ (x : Kept). x.path) o.4)

  is_kept_to : (a : AgentRecord H P) (path : Path) (id : List ℕ) (role : Bool) → IsKept a path id role → Has (all_kept a a.pairs) (record { path = path; id = id; controlling = role })
  is_kept_to a path id role (p, c, has, keeps, id_is, role_is, path_is) =
      subst (λ w. Has (all_kept a a.pairs) (record { path = w; id = id; controlling = role })) path_is
      (subst (λ i. Has (all_kept a a.pairs) (record { path = path_of a p; id = i; controlling = role })) id_is
      (subst (λ r. Has (all_kept a a.pairs) (record { path = path_of a p; id = c.id; controlling = r })) role_is (kept_to a a.pairs p c has keeps)))

  valid_if : (b : Bool) (a : AgentRecord H P) (p : PairRecord) (ps : List PairRecord) (path : Path) → is_valid p ≡ b → Has (if b then path_of a p ∷ all_valid a ps else all_valid a ps) path
      → ((is_valid p ≡ true) × (path_of a p ≡ path)) ⊎ Has (all_valid a ps) path
  valid_if true a p ps path is (inl e) = inl (is, e)
  valid_if true a p ps path is (inr h) = inr h
  valid_if false a p ps path is h = inr h

  valid_in : (a : AgentRecord H P) (ps : List PairRecord) (path : Path) → Has (all_valid a ps) path → (p : PairRecord) × Has ps p × (is_valid p ≡ true) × (path_of a p ≡ path)
  valid_in a [] path h = absurd h
  valid_in a (p ∷ ps) path h = elim (valid_if (is_valid p) a p ps path refl h) [
    | inl k ↦ (p, inl refl, k.0, k.1)
    | inr k ↦ (let o = valid_in a ps path k in (o.0, inr o.1, o.2, o.3))
  ]

  valid_here : (b : Bool) (a : AgentRecord H P) (p : PairRecord) (ps : List PairRecord) → b ≡ true → Has (if b then path_of a p ∷ all_valid a ps else all_valid a ps) (path_of a p)
  valid_here true a p ps is = inl refl
  valid_here false a p ps is = let wrong : false ≡ true = is in absurd (cc)

  valid_more : (b : Bool) (a : AgentRecord H P) (p : PairRecord) (ps : List PairRecord) (path : Path) → Has (all_valid a ps) path → Has (if b then path_of a p ∷ all_valid a ps else all_valid a ps) path
  valid_more true a p ps path h = inr h
  valid_more false a p ps path h = h

  valid_to : (a : AgentRecord H P) (ps : List PairRecord) (p : PairRecord) → Has ps p → is_valid p ≡ true → Has (all_valid a ps) (path_of a p)
  valid_to a [] p h is = absurd h
  valid_to a (q ∷ ps) p (inl e) is =
      subst (λ (x : PairRecord). Has (all_valid a (q ∷ ps)) (path_of a x)) e (valid_here (is_valid q) a q ps (ap (λ (x : PairRecord). is_valid x) e ∙ is))
  valid_to a (q ∷ ps) p (inr h) is = valid_more (is_valid q) a q ps (path_of a p) (valid_to a ps p h is)

  is_valid_to : (a : AgentRecord H P) (path : Path) → IsValidOn a path → Has (all_valid a a.pairs) path
  is_valid_to a path (p, has, is, path_is) = subst (λ w. Has (all_valid a a.pairs) w) path_is (valid_to a a.pairs p has is)

  -- ---- what was served

  serves_is : (old : AgentRecord H P) (call : Call P) (e : Entry) (q : RequestRecord) → served_by old call e.answer ≡ Some q → IsServing old call e q
  serves_is old (ReceivePacket now via bytes) e q h =
      let k = when_is e.answer (request_when (fault_of bytes) (message_of bytes).class old.remote_creds (request_in now via (message_of bytes))) q h in
      let r = when_request (fault_of bytes) (message_of bytes).class old.remote_creds (request_in now via (message_of bytes)) q k.1 in
      (now, via, message_of bytes, (refl, refl, record { faultless = r.0; spelled = refl }, k.0), r.1, r.2, sym r.3)
  serves_is old (HandleTimeout now) e q h = let k = done_is e.answer (request_at now old) q h in (k.1, k.0)
  serves_is old call e q h = absurd (let wrong : None ≡ Some q = h in cc)

  serves_to : (old : AgentRecord H P) (call : Call P) (e : Entry) (q : RequestRecord) → IsServing old call e q → served_by old call e.answer ≡ Some q
  serves_to old (ReceivePacket now via bytes) e q (at, by, m, (at_is, by_is, reads, flag), request, known, is) =
      ap (λ a. when_accepted a (request_when (fault_of bytes) (message_of bytes).class old.remote_creds (request_in now via (message_of bytes)))) flag
      ∙ ap (λ f. request_when f (message_of bytes).class old.remote_creds (request_in now via (message_of bytes))) reads.faultless
      ∙ ap (λ (x : Message). request_when None x.class old.remote_creds (request_in now via x)) (sym reads.spelled)
      ∙ ap (λ c. request_when None c old.remote_creds (request_in now via m)) request
      ∙ known_request old.remote_creds (request_in now via m) known
      ∙ ap Some (ap (λ n. request_in n via m) at_is ∙ ap (λ w. request_in at w m) by_is ∙ sym is)
  serves_to old (HandleTimeout now) e q (is, flag) = ap (λ a. when_done a (request_at now old)) flag ∙ is
  serves_to old call e q h = absurd h.3

abbrev sent_of : Path → Class → List ℕ → Sent
sent_of path c id = record { path = path; class = c; id = id }

-- ---- tie-breakers

opposite : (own r : ℕ) → nat_lt own r ≡ not (nat_le r own)
opposite own r = elim (leb_tells r own) [
  | inl (is, le) ↦ elim (leb_tells (suc own) r) [
    | inl (lt_is, lt) ↦ absurd (let none : ⊥ = omega (arith, le, lt) in none)
    | inr (lt_is, ge) ↦ lt_is ∙ ap not (sym is)
  ]
  | inr (is, lt) ↦ elim (leb_tells (suc own) r) [
    | inl (lt_is, le) ↦ lt_is ∙ ap not (sym is)
    | inr (lt_is, ge) ↦ absurd (let none : ⊥ = omega (arith, lt, ge) in none)
  ]
]

switches_role_if : (b : Bool) → (if b then Send487 else SwitchRole) ≡ SwitchRole → not b ≡ true
switches_role_if true h = absurd (let wrong : Send487 ≡ SwitchRole = h in cc)
switches_role_if false h = refl

sends_487_if : (b : Bool) → (if b then Send487 else SwitchRole) ≡ Send487 → b ≡ true
sends_487_if true h = refl
sends_487_if false h = absurd (let wrong : SwitchRole ≡ Send487 = h in cc)

switches_role_by : (keeps : Bool) (own : ℕ) (o : Option ℕ) → conflict_by keeps own o ≡ SwitchRole → option_map_or (λ tie. not keeps && nat_lt own tie) o false ≡ true
switches_role_by keeps own None h = absurd (let wrong : Absent ≡ SwitchRole = h in cc)
switches_role_by true own (Some r) h = absurd (let wrong : Send487 ≡ SwitchRole = h in cc)
switches_role_by false own (Some r) h = opposite own r ∙ switches_role_if (nat_le r own) h

sends_487_by : (keeps : Bool) (own : ℕ) (o : Option ℕ) → conflict_by keeps own o ≡ Send487 → option_map_or (λ tie. keeps || nat_le tie own) o false ≡ true
sends_487_by keeps own None h = absurd (let wrong : Absent ≡ Send487 = h in cc)
sends_487_by true own (Some r) h = refl
sends_487_by false own (Some r) h = sends_487_if (nat_le r own) h

role_if : (b c : Bool) → role_once (if b then Send487 else SwitchRole) c ≡ (if not b then not c else c)
role_if true c = refl
role_if false c = refl

role_by : (keeps : Bool) (own : ℕ) (o : Option ℕ) (c : Bool) → role_once (conflict_by keeps own o) c ≡ (if option_map_or (λ tie. not keeps && nat_lt own tie) o false then not c else c)
role_by keeps own None c = refl
role_by true own (Some r) c = refl
role_by false own (Some r) c = role_if (nat_le r own) c ∙ ap (λ b. if b then not c else c) (sym (opposite own r))

placed_at : (o : Option ℕ) → is_some o ≡ true → (l : ℕ) × (o ≡ Some l)
placed_at None h = absurd (let wrong : false ≡ true = h in cc)
placed_at (Some l) h = (l, refl)

not_it : (b : Bool) → not b ≡ true → b ≡ false
not_it true h = sym h
not_it false h = refl

module _ {H P : Type 0} (mac : H → List ℕ → List ℕ → List ℕ) (old new : AgentRecord H P) (call : Call P) (e : Entry) (f : PathEffect mac old call e new) (t : TradeEffect mac old call e new) where
  abbrev D : RoleEvent
  D = role_event_of old call e

  ties : (call : Call P) → sets_role call ≡ false → tie_set_by call old.tie_breaker ≡ old.tie_breaker
  ties (SetControlTieBreaker tie) h = absurd (let wrong : true ≡ false = h in cc)
  ties call h = refl

  lites : (call : Call P) → sets_lite call ≡ false → old.lite ≡ false → lite_set_by call old.lite ≡ false
  lites (SetIceLite lite) h plain = h
  lites call h plain = plain

  unset : (call : Call P) (role : Bool) → sets_role call ≡ false → IsRoleSet call role → ⊥
  unset (SetControlling controlling) role h k = let wrong : true ≡ false = h in cc
  unset call role h k = k

  brought : (q : RequestRecord) → IsBrought call e q → roles.IsCarriedIn D q
  brought q (at, by, m, brings, request, is) = record {
    mail = mail_of m;
    accepted = (brings_to call e at by m brings).0;
    class = request;
    id = ap (λ (x : RequestRecord). x.id) is;
    ice_controlling = ap (λ (x : RequestRecord). x.ice_controlling) is;
    ice_controlled = ap (λ (x : RequestRecord). x.ice_controlled) is;
  }

  answered : (path : Path) → IsAnswered mac old call e path → roles.MeetsSuccess (role_state_of old) D path
  answered path (at, by, m, role, peer, brings, success, kept, known, signed, back) =
      let ends = both (same_address by.source path.destination) (same_address by.destination path.source) back in record {
        mail = mail_of m;
        role = role;
        accepted = (brings_to call e at by m brings).0;
        class = success;
        kept = is_kept_to old path m.id role kept;
        via = by;
        came = (brings_to call e at by m brings).1;
        back = (same_address-sound by.source path.destination ends.0, same_address-sound by.destination path.source ends.1);
      }

  rejected : IsRejectedBy old call e new → roles.MeetsConflict (role_state_of old) D (role_state_of new)
  rejected (at, by, path, m, role, brings, failure, conflict, kept, gives) = record {
    mail = mail_of m;
    role = role;
    accepted = (brings_to call e at by m brings).0;
    class = failure;
    kept = (path, is_kept_to old path m.id role kept);
    removes_expired = gives;
  }

  posted : (packet : Packet) (n : Message) (x : Mail) → Reads packet.contents n → mail_of n ≡ x → IsIssued mac old call e packet new.controlling
      → roles.IsPosted (role_state_of old) D x new.controlling
  posted packet n x reads is (m, contents, emitted, says) = subst (λ y. roles.IsPosted (role_state_of old) D y new.controlling) is (by m.class refl says) where
    out : n.class ≡ m.class → n.id ≡ m.id → D.issued ≡ Some record { path = via_out packet; class = n.class; id = n.id }
    out c i = ap (option_map sent_as) emitted ∙ ap (λ k. Some (sent_of (via_out packet) k m.id)) (sym c) ∙ ap (λ k. Some (sent_of (via_out packet) n.class k)) (sym i)

    by : (c : Class) → m.class ≡ c → Says c old call e packet.contents m (via_out packet) new.controlling → roles.IsPosted (role_state_of old) D (mail_of n) new.controlling
    by class.Request is_c (peer, cand, uses, number, known, has, m_is, put, role, leads, its) =
        let same : SameMessage n m = put.reads n reads in record {
          path = via_out packet;
          issued = out same.class same.id;
          says = subst (λ k. roles.Conveys k (role_state_of old) D (mail_of n) new.controlling) (sym (same.class ∙ is_c)) (
            (
              ap (λ (a : AttributesRecord). a.ice_controlling) same.attributes ∙ ap (λ (k : Message). k.attributes.ice_controlling) m_is,
              ap (λ (a : AttributesRecord). a.ice_controlled) same.attributes ∙ ap (λ (k : Message). k.attributes.ice_controlled) m_is,
            ),
            role,
          );
        }
    by class.Success is_c (q, serving, m_is, via, put) =
        let same = put.reads n reads in record {
          path = via_out packet;
          issued = out (same.class ∙ sym is_c) (same.id ∙ sym (ap (λ (k : Message). k.id) m_is));
          says = subst (λ k. roles.Conveys k (role_state_of old) D (mail_of n) new.controlling) (sym same.class) (q, serves_to old call e q serving, sym same.id);
        }
    by class.Failure is_c (q, serving, m_is, via, put, sends_487, role) =
        let same = put.reads n reads in record {
          path = via_out packet;
          issued = out same.class same.id;
          says = subst (λ k. roles.Conveys k (role_state_of old) D (mail_of n) new.controlling) (sym (same.class ∙ is_c))
              (q, serves_to old call e q serving, sym (same.id ∙ ap (λ (k : Message). k.id) m_is), sends_487_by (keeps_role old) old.tie_breaker (rival old q) sends_487, role);
        }
    by class.Indication is_c h = absurd h
    by class.Unknown is_c h = absurd h

  none_kept : (a : AgentRecord H P) (ps : List PairRecord) → ((p : PairRecord) → Has ps p → p.checks ≡ []) → all_kept a ps ≡ []
  none_kept a [] none = refl
  none_kept a (p ∷ ps) none = ap (λ cs. map (kept_as (path_of a p)) cs ++ all_kept a ps) (none p (inl refl)) ∙ none_kept a ps (λ q has. none q (inr has))

  none_valid : (a : AgentRecord H P) (ps : List PairRecord) → ((p : PairRecord) → Has ps p → is_valid p ≡ false) → all_valid a ps ≡ []
  none_valid a [] none = refl
  none_valid a (p ∷ ps) none = ap (λ b. if b then path_of a p ∷ all_valid a ps else all_valid a ps) (none p (inl refl)) ∙ none_valid a ps (λ q has. none q (inr has))

  pub role_effect : RoleEffect (role_state_of old) D (role_state_of new)
  role_effect = record {
    tie_breaker = λ h. t.tie_breaker ∙ ties call h;
    lite = λ plain h. f.lite ∙ lites call h plain;
    packets = λ x has. (
        let o = Has-map mail_in new.packets (Some x) has in elim (t.packets o.0 o.1) [
          | inl was ↦ inl (subst (λ y. Has (map mail_in old.packets) y) o.2 (Has-mapped mail_in old.packets o.0 was))
          | inr out ↦ (let r = mail_is (fault_of o.0.contents) (message_of o.0.contents) x o.2 in
              inr (posted o.0 (message_of o.0.contents) x (record { faultless = r.0; spelled = refl }) r.1 out))
        ]);
    queue = λ q has. elim (f.queue q has) [ inl was ↦ inl was | inr now ↦ inr (brought q now) ];
    serves = λ q is. elim (f.serves q (serves_is old call e q is)) [ inl was ↦ inl was | inr now ↦ inr (brought q now) ];
    kept = λ k has. elim (f.checks k.path k.id k.controlling (is_kept_in new k has)) [
      | inl was ↦ inl (is_kept_to old k.path k.id k.controlling was)
      | inr out ↦ inr (ap (option_map sent_as) out.0, out.1, out.2)
    ];
    valid = λ plain _ path has. elim (f.valid plain path (valid_in new new.pairs path has)) [ inl was ↦ inl (is_valid_to old path was) | inr now ↦ inr (answered path now) ];
    selected_paths = λ plain _ path has. elim (f.selected_paths plain path (in_paths e.emitted.selected_paths path has)) [ inl was ↦ inl (is_valid_to old path was) | inr now ↦ inr (answered path now) ];
    cleared = λ clear. (
      none_kept new new.pairs (λ p has. (f.cleared_pairs clear p has).3),
      none_valid new new.pairs (λ p has. (f.cleared_pairs clear p has).1),
      ap (λ (x : Emitted). some_paths x.selected_paths) (f.cleared clear),
    );
    role = λ h. elim t.role [
      | inl same ↦ inl same
      | inr k ↦ elim k [
        | inl (q, serving, switches_role, reversed) ↦ inr (inl (q, serves_to old call e q serving, switches_role_by (keeps_role old) old.tie_breaker (rival old q) switches_role, reversed))
        | inr z ↦ elim z [ inl by ↦ inr (inr (rejected by)) | inr set ↦ absurd (unset call new.controlling h set) ]
      ]
    ];
    settled = λ q is passes. (
        let two = both (not (is_for_other_peer old q)) (is_some (local_place old.local q)) passes in
        t.settled q (serves_is old call e q is) (not_it (is_for_other_peer old q) two.0, placed_at (local_place old.local q) two.1) ∙ role_by (keeps_role old) old.tie_breaker (rival old q) old.controlling);
    expired = λ unkept x is failure conflict. (
        let k = brings_is call e x is in
        rejected (t.expired unkept k.0 k.1 k.2 k.3 (ap (λ (y : Mail). y.class) k.4 ∙ failure) (ap (λ (y : Mail). y.is_conflict) k.4 ∙ conflict)));
  }

module _ {H P : Type 0} (mac : H → List ℕ → List ℕ → List ℕ) (answers : P → CandidateRecord → ℕ → ℕ → Type 0) where
  pub role_theorem : RoleTheorem {H = H} {P = P} mac answers
  role_theorem old new s t call e sound given h =
      role_effect mac old new call e (path_theorem mac answers old new s t call e sound given h).0 (trade_theorem mac answers old new s t call e sound given h)

pub fresh_new : (H P : Type 0) → FreshIsNew H P
fresh_new H P provider creds tie_breaker = record { lite = refl; queue = refl; packets = refl; kept = refl; valid = refl }

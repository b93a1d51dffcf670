-- What two agents know of each other by the checks that they sent: each claims the role in which it was sent. Each transition preserves it.
use Rattle.is_stun.specs.declared.header.Class.TheVariants as class
use Rattle.is_stun.specs.Theorems.{SameMessage}
use Rattle.is_rules.specs.Steps as agent
use Rattle.is_theorems.specs.RoleState.{Claims}
use Rattle.is_c_theorems.proofs.Common.{◌&&◌, ◌<◌, ◌∙◌, ◌∷◌, ◌≡◌, ◌≤◌, ◌⊎◌, A, Absent, AgentRecord, ap, arith, AttributesRecord, B, Bool}
use Rattle.is_c_theorems.proofs.Common.{Brings, Call, Class, conflict_by, conflict_of, Entry, false, Has, if◌then◌else◌, inl, inr}
use Rattle.is_c_theorems.proofs.Common.{is_modern, IsBrought, IsIssued, IsKept, IsRoleSet, IsServing, Issued, issued_as, List, Message}
use Rattle.is_c_theorems.proofs.Common.{nat_le, nat_tests, None, not, Option, other, Packet, Path, PathEffect, Reads, refl, RequestRecord}
use Rattle.is_c_theorems.proofs.Common.{rival_in, same, Says, Send487, sets_role, Side, Some, subst, SwitchRole, sym, tie_set_by}
use Rattle.is_c_theorems.proofs.Common.{TradeEffect, true, via_out, ℕ}

-- ---- sides

pub other_back : (s : Side) → other (other s) ≡ s
other_back A = refl
other_back B = refl

pub not_other : (s : Side) → other s ≡ s → ⊥
not_other A h = let wrong_ : B ≡ A = h in cc
not_other B h = let wrong_ : A ≡ B = h in cc

pub one_side : (s side : Side) → (s ≡ side) ⊎ (s ≡ other side)
one_side A A = inl refl
one_side A B = inr refl
one_side B A = inr refl
one_side B B = inl refl

pub not_self : (b : Bool) → not b ≡ b → ⊥
not_self true h = let wrong_ : false ≡ true = h in cc
not_self false h = let wrong_ : true ≡ false = h in cc

-- ---- checks that were sent

-- a check: who sent it, its transaction ID, its path, and the role in which it was sent
pub record Note : Type 0 where
  pub side : Side
  pub id : List ℕ
  pub path : Path
  pub role : Bool

abbrev pub note : Side → List ℕ → Path → Bool → Note
note side id path role = record { side = side; id = id; path = path; role = role }

abbrev pub Within : List Note → List Note → Type 0
Within ns more = (n : Note) → Has ns n → Has more n

-- No two of them have the same transaction ID.
abbrev pub AreDistinct : List Note → Type 0
AreDistinct ns = (m n : Note) → Has ns m → Has ns n → m.id ≡ n.id → m ≡ n

abbrev pub add_by : Class → Note → List Note → List Note
add_by class.Request n ns = n ∷ ns
add_by _ n ns = ns

-- with the check that a transition issues, if it issues one
abbrev pub add : Side → Bool → Option Issued → List Note → List Note
add side role None ns = ns
add side role (Some i) ns = add_by i.class (note side i.id.0 i.path role) ns

pub add_within : (side : Side) (role : Bool) (o : Option Issued) (ns : List Note) → Within ns (add side role o ns)
add_within side role None ns n has = has
add_within side role (Some i) ns n has = by i.class where
  by : (c : Class) → Has (add_by c (note side i.id.0 i.path role) ns) n
  by class.Request = inr has
  by class.Success = has
  by class.Failure = has
  by class.Indication = has
  by class.Unknown = has

pub add_has : (side : Side) (role : Bool) (o : Option Issued) (ns : List Note) (path : Path) (id : List ℕ) → o ≡ Some (issued_as path class.Request id)
    → Has (add side role o ns) (note side id path role)
add_has side role o ns path id is = subst (λ (x : Option Issued). Has (add side role x ns) (note side id path role)) (sym is) (inl refl)

-- ---- what is known

-- the tie-breakers; whether roles are spoken of, and then which tie-breaker is greater, and the role of that agent
pub record Setting : Type 0 where
  pub tie : Side → ℕ
  pub ranked : Bool
  pub greater : Side
  pub role : Bool
  pub greatest : ranked ≡ true → tie (other greater) < tie greater

-- The request claims this role with the side's tie-breaker, and the agent with the greater one claims its own.
abbrev pub IsClaimed : Setting → Side → Option ℕ → Option ℕ → Bool → Type 0
IsClaimed z side controlling controlled role = z.ranked ≡ true → Claims controlling controlled role (z.tie side) × (side ≡ z.greater → role ≡ z.role)

-- A request of the side with this transaction ID claims the role in which it was sent.
abbrev pub IsClaim : Setting → List Note → Side → List ℕ → Option ℕ → Option ℕ → Type 0
IsClaim z ns side id controlling controlled =
    (path : Path) × (role : Bool) × Has ns (note side id path role) × IsClaimed z side controlling controlled role

-- what a message says that the side sends on the path, by its class
abbrev pub Fact : Setting → List Note → Side → Path → Class → Message → Type 0
Fact z ns side to class.Request m =
    (role : Bool) × Has ns (note side m.id to role) × IsClaimed z side m.attributes.ice_controlling m.attributes.ice_controlled role
Fact z ns side to class.Failure m = z.ranked ≡ true → (side ≡ z.greater) × ((path : Path) × Has ns (note (other side) m.id path z.role))
Fact z ns side to _ m = Unit {0}

-- what an agent stores
pub record Mind {H P : Type 0} (z : Setting) (ns : List Note) (side : Side) (a : AgentRecord H P) : Type 0 where
  pub tie : z.ranked ≡ true → a.tie_breaker ≡ z.tie side
  pub greater : z.ranked ≡ true → side ≡ z.greater → a.controlling ≡ z.role
  pub packets : (p : Packet) → Has a.packets p → (m : Message) → Reads p.contents m → Fact z ns side (via_out p) m.class m
  pub queue : (q : RequestRecord) → Has a.queue q → IsClaim z ns (other side) q.id q.ice_controlling q.ice_controlled
  pub kept : (path : Path) (id : List ℕ) (role : Bool) → IsKept a path id role → Has ns (note side id path role)

module _ (z : Setting) (ns more : List Note) (on : Within ns more) where
  pub claim_on : (side : Side) (id : List ℕ) (a b : Option ℕ) → IsClaim z ns side id a b → IsClaim z more side id a b
  claim_on side id a b (path, role, has, claims) = (path, role, on _ has, claims)

  pub fact_on : (side : Side) (to : Path) (c : Class) (m : Message) → Fact z ns side to c m → Fact z more side to c m
  fact_on side to class.Request m (role, has, claims) = (role, on _ has, claims)
  fact_on side to class.Failure m k = λ ranked. (let (is, (path, has)) = k ranked in (is, (path, on _ has)))
  fact_on side to class.Success m k = tt
  fact_on side to class.Indication m k = tt
  fact_on side to class.Unknown m k = tt

  pub mind_on : {H P : Type 0} (side : Side) (a : AgentRecord H P) → Mind z ns side a → Mind z more side a
  mind_on side a k = record {
    tie = k.tie;
    greater = k.greater;
    packets = λ p has m reads. fact_on side (via_out p) m.class m (k.packets p has m reads);
    queue = λ q has. claim_on (other side) q.id q.ice_controlling q.ice_controlled (k.queue q has);
    kept = λ path id role is. on _ (k.kept path id role is);
  }

-- ---- role conflicts

rivals : (own role : Bool) (tie : ℕ) (q : RequestRecord) → Claims q.ice_controlling q.ice_controlled role tie → rival_in own q ≡ (if same own role then Some tie else None)
rivals true true tie q c = c.0
rivals true false tie q c = c.0
rivals false true tie q c = c.1
rivals false false tie q c = c.1

sends_if : (b : Bool) → (if b then Send487 else SwitchRole) ≡ Send487 → b ≡ true
sends_if true h = refl
sends_if false h = let wrong_ : SwitchRole ≡ Send487 = h in absurd (cc)

switches_if : (b : Bool) → (if b then Send487 else SwitchRole) ≡ SwitchRole → b ≡ false
switches_if true h = let wrong_ : Send487 ≡ SwitchRole = h in absurd (cc)
switches_if false h = refl

-- the conflict, by the role that the request claims
by_claim : (own role : Bool) (tie mine : ℕ) (r : Option ℕ) → r ≡ (if same own role then Some tie else None)
    → (conflict_by false mine r ≡ Absent) ⊎ ((own ≡ role) × (conflict_by false mine r ≡ (if nat_le tie mine then Send487 else SwitchRole)))
by_claim true true tie mine r is = inr (refl, ap (conflict_by false mine) is)
by_claim true false tie mine r is = inl (ap (conflict_by false mine) is)
by_claim false true tie mine r is = inl (ap (conflict_by false mine) is)
by_claim false false tie mine r is = inr (refl, ap (conflict_by false mine) is)

sends : (own role : Bool) (tie mine : ℕ) (q : RequestRecord) → Claims q.ice_controlling q.ice_controlled role tie → conflict_by false mine (rival_in own q) ≡ Send487
    → (own ≡ role) × (tie ≤ mine)
sends own role tie mine q c h = elim (by_claim own role tie mine (rival_in own q) (rivals own role tie q c)) [
  | inl none ↦ let wrong_ : Absent ≡ Send487 = sym none ∙ h in absurd (cc)
  | inr (is, by) ↦ let le : nat_le tie mine ≡ true = sends_if (nat_le tie mine) (sym by ∙ h) in (is, grind (arith, nat_tests))
]

switches : (own role : Bool) (tie mine : ℕ) (q : RequestRecord) → Claims q.ice_controlling q.ice_controlled role tie → conflict_by false mine (rival_in own q) ≡ SwitchRole
    → (own ≡ role) × (mine < tie)
switches own role tie mine q c h = elim (by_claim own role tie mine (rival_in own q) (rivals own role tie q c)) [
  | inl none ↦ let wrong_ : Absent ≡ SwitchRole = sym none ∙ h in absurd (cc)
  | inr (is, by) ↦ let no : nat_le tie mine ≡ false = switches_if (nat_le tie mine) (sym by ∙ h) in (is, grind (arith, nat_tests))
]

-- ---- a transition

not_set : {P : Type 0} (call : Call P) (role : Bool) → sets_role call ≡ false → IsRoleSet call role → ⊥
not_set (agent.SetControlling c) role none set = let wrong_ : true ≡ false = none in cc
not_set _ role none set = set

tie_left : {P : Type 0} (call : Call P) (tie : ℕ) → sets_role call ≡ false → tie_set_by call tie ≡ tie
tie_left (agent.SetControlTieBreaker n) tie none = let wrong_ : true ≡ false = none in absurd (cc)
tie_left _ tie none = refl

module _ {H P : Type 0} (mac : H → List ℕ → List ℕ → List ℕ) (z : Setting) (ns : List Note) (side : Side) (old new : AgentRecord H P) (call : Call P) (e : Entry)
    (f : PathEffect mac old call e new) (t : TradeEffect mac old call e new) (unset : z.ranked ≡ true → sets_role call ≡ false) (full : z.ranked ≡ true → old.lite ≡ false) (distinct : AreDistinct ns)
    (brought : (at : ℕ) (by : Path) (m : Message) → Brings call e at by m → (to : Path) × Fact z ns (other side) to m.class m) (k : Mind z ns side old) where
  abbrev pub After : List Note
  After = add side old.controlling e.emitted.issued ns

  within : Within ns After
  within = add_within side old.controlling e.emitted.issued ns

  keeps_not : z.ranked ≡ true → (q : RequestRecord) → conflict_of old q ≡ conflict_by false old.tie_breaker (rival_in old.controlling q)
  keeps_not ranked q = ap (λ (l : Bool). conflict_by (l && is_modern old.timing) old.tie_breaker (rival_in old.controlling q)) (full ranked)

  -- a request that the call brings, or that it serves
  claimed : (q : RequestRecord) → IsBrought call e q → IsClaim z ns (other side) q.id q.ice_controlling q.ice_controlled
  claimed q (at, by, m, brings, request, is) =
      let (to, fact) = brought at by m brings in
      let (role, has, claims) : Fact z ns (other side) to class.Request m = subst (λ (c : Class). Fact z ns (other side) to c m) request fact in
      subst (λ (x : RequestRecord). IsClaim z ns (other side) x.id x.ice_controlling x.ice_controlled) (sym is) (to, role, has, claims)

  served : (q : RequestRecord) → IsServing old call e q → IsClaim z ns (other side) q.id q.ice_controlling q.ice_controlled
  served q serving = elim (f.serves q serving) [ inl was ↦ k.queue q was | inr now ↦ claimed q now ]

  -- only the agent with the greater tie-breaker sends a 487
  sender_is : z.ranked ≡ true → z.tie (other side) ≤ z.tie side → side ≡ z.greater
  sender_is ranked le = elim (one_side side z.greater) [
    | inl is ↦ is
    | inr lesser ↦ (
        let lt = z.greatest ranked in
        let back : z.tie z.greater ≤ z.tie (other z.greater) =
        subst (λ (s : Side). z.tie s ≤ z.tie (other z.greater)) (ap other lesser ∙ other_back z.greater) (subst (λ (s : Side). z.tie (other side) ≤ z.tie s) lesser le) in
        let none : ⊥ = omega (arith, lt, back) in
        absurd none)
  ]

  issued_now : (p : Packet) (n : Message) → Reads p.contents n → IsIssued mac old call e p new.controlling → Fact z After side (via_out p) n.class n
  issued_now p n reads (m, contents, emitted, says) = by m.class refl says where
    by : (c : Class) → m.class ≡ c → Says c old call e p.contents m (via_out p) new.controlling → Fact z After side (via_out p) n.class n
    by class.Request is (peer, cand, uses, number, known, has, m_is, put, role, leads, its) =
        let same_one : SameMessage n m = put.reads n reads in
        subst (λ (c : Class). Fact z After side (via_out p) c n) (sym (same_one.class ∙ is)) (
          old.controlling,
          add_has side old.controlling e.emitted.issued ns (via_out p) n.id
              (emitted ∙ (ap (λ (c : Class). Some (issued_as (via_out p) c m.id)) is ∙ ap (λ (id : List ℕ). Some (issued_as (via_out p) class.Request id)) (sym same_one.id))),
          λ ranked. (
            subst (λ (tie : ℕ). Claims n.attributes.ice_controlling n.attributes.ice_controlled old.controlling tie) (k.tie ranked) (
              ap (λ (a : AttributesRecord). a.ice_controlling) same_one.attributes ∙ ap (λ (x : Message). x.attributes.ice_controlling) m_is,
              ap (λ (a : AttributesRecord). a.ice_controlled) same_one.attributes ∙ ap (λ (x : Message). x.attributes.ice_controlled) m_is,
            ),
            k.greater ranked,
          ),
        )
    by class.Success is (q, serving, m_is, via, put) = subst (λ (c : Class). Fact z After side (via_out p) c n) (sym (put.reads n reads).class) tt
    by class.Failure is (q, serving, m_is, via, put, conflict, role) =
        let same_one : SameMessage n m = put.reads n reads in
        let (path, claimed_role, has, claims) = served q serving in
        let id_is : q.id ≡ n.id = sym (same_one.id ∙ ap (λ (x : Message). x.id) m_is) in
        subst (λ (c : Class). Fact z After side (via_out p) c n) (sym (same_one.class ∙ is)) (λ ranked. (
        let two = sends old.controlling claimed_role (z.tie (other side)) old.tie_breaker q (claims ranked).0 (sym (keeps_not ranked q) ∙ conflict) in
        let mine : side ≡ z.greater = sender_is ranked (subst (λ (n : ℕ). z.tie (other side) ≤ n) (k.tie ranked) two.1) in
        let role_is : claimed_role ≡ z.role = sym two.0 ∙ k.greater ranked mine in (
          mine,
          (path, within _ (subst (λ (id : List ℕ). Has ns (note (other side) id path z.role)) id_is (subst (λ (b : Bool). Has ns (note (other side) q.id path b)) role_is has))),
        )))
    by class.Indication is h = absurd h
    by class.Unknown is h = absurd h

  -- a 487 comes from the agent with the greater tie-breaker, and its check claimed that agent's role
  rejected : z.ranked ≡ true → (m : Message) (at : ℕ) (by : Path) → Brings call e at by m → m.class ≡ class.Failure → (other side ≡ z.greater) × ((path : Path) × Has ns (note side m.id path z.role))
  rejected ranked m at by brings failure =
      let (to, fact) = brought at by m brings in
      let said : Fact z ns (other side) to class.Failure m = subst (λ (c : Class). Fact z ns (other side) to c m) failure fact in
      let (is, (path, has)) = said ranked in
      (is, (path, subst (λ (s : Side). Has ns (note s m.id path z.role)) (other_back side) has))

  greater_now : z.ranked ≡ true → side ≡ z.greater → new.controlling ≡ z.role
  greater_now ranked mine = elim t.role [
    | inl stays ↦ stays ∙ k.greater ranked mine
    | inr (inl (q, serving, conflict, turned)) ↦ (
        let (path, role, has, claims) = served q serving in
        let two = switches old.controlling role (z.tie (other side)) old.tie_breaker q (claims ranked).0 (sym (keeps_not ranked q) ∙ conflict) in
        let lt = z.greatest ranked in
        let back : z.tie z.greater < z.tie (other z.greater) = subst (λ (s : Side). z.tie s < z.tie (other s)) mine (subst (λ (n : ℕ). n < z.tie (other side)) (k.tie ranked) two.1) in
        let none : ⊥ = omega (arith, lt, back) in
        absurd none)
    | inr (inr (inl (at, by, path, m, role, brings, failure, conflict, kept, turned))) ↦ absurd (not_other side ((rejected ranked m at by brings failure).0 ∙ sym mine))
    | inr (inr (inr set)) ↦ absurd (not_set call new.controlling (unset ranked) set)
  ]

  pub lesser_now : z.ranked ≡ true → side ≡ other z.greater → old.controlling ≡ not z.role → new.controlling ≡ not z.role
  lesser_now ranked lesser was = elim t.role [
    | inl stays ↦ stays ∙ was
    | inr (inl (q, serving, conflict, turned)) ↦ (
        let (path, role, has, claims) = served q serving in
        let two = switches old.controlling role (z.tie (other side)) old.tie_breaker q (claims ranked).0 (sym (keeps_not ranked q) ∙ conflict) in
        absurd (not_self z.role (sym was ∙ (two.0 ∙ (claims ranked).1 (ap other lesser ∙ other_back z.greater)))))
    | inr (inr (inl (at, by, path, m, role, brings, failure, conflict, kept, turned))) ↦ (
        let (is, (sent, has)) = rejected ranked m at by brings failure in
        let one_note : note side m.id path role ≡ note side m.id sent z.role = distinct _ _ (k.kept path m.id role kept) has refl in
        turned ∙ ap not (ap (λ (n : Note). n.role) one_note))
    | inr (inr (inr set)) ↦ absurd (not_set call new.controlling (unset ranked) set)
  ]

  pub mind_next : Mind z After side new
  mind_next = record {
    tie = λ ranked. t.tie_breaker ∙ (tie_left call old.tie_breaker (unset ranked) ∙ k.tie ranked);
    greater = greater_now;
    packets = λ p has m reads. elim (t.packets p has) [
      | inl was ↦ fact_on z ns After within side (via_out p) m.class m (k.packets p was m reads)
      | inr out ↦ issued_now p m reads out
    ];
    queue = λ q has. elim (f.queue q has) [
      | inl was ↦ claim_on z ns After within (other side) q.id q.ice_controlling q.ice_controlled (k.queue q was)
      | inr now ↦ claim_on z ns After within (other side) q.id q.ice_controlling q.ice_controlled (claimed q now)
    ];
    kept = λ path id role is. elim (f.checks path id role is) [
      | inl was ↦ within _ (k.kept path id role was)
      | inr (out, role_is, stays) ↦ subst (λ (b : Bool). Has After (note side id path b)) (sym role_is) (add_has side old.controlling e.emitted.issued ns path id out)
    ];
  }

-- What the log implies for two agents and the packets between them, and that each step preserves it.
use Rattle.is_stun.specs.declared.header.Class.TheVariants as class
use Rattle.is.proofs.Common.{[], ◌++◌, ◌<◌, ◌∙◌, ◌∷◌, ◌≡◌, ◌≤◌, ◌⊎◌, A, ap, arith, B, Bool, Claims, Class, Conveys, false, Has, inl, inr}
use Rattle.is.proofs.Common.{IsCarriedIn, Kept, length, List, Mail, MeetsConflict, MeetsSuccess, not, other, Path, refl, RequestRecord}
use Rattle.is.proofs.Common.{RoleEffect, RoleEvent, RoleState, Side, slice_get_within, Some, subst, sym, true, ℕ}
use Rattle.is.proofs.ExternalViews.NetworkModel.{InFlight, Seen, Emitted, at, roles_of, role_at, Issues, Takes, NoClear, Trace}
use Rattle.is.proofs.ExternalViews.NetworkModel.{DistinctChecks}
use Rattle.is.proofs.ExternalViews.EntriesOfGrowingLogs.{get-last, get-push_cases, issues-grow, takes-grow, no_clear-grow, trace-grow}
use Rattle.is.proofs.ExternalViews.ClaimedRoles.{sends_487-claims, switches_role-claims, settled-claims}

-- ---- sides

pub other-other : (s : Side) → other (other s) ≡ s
other-other A = refl
other-other B = refl

pub not-other : (s : Side) → other s ≡ s → ⊥
not-other A h = cc
not-other B h = cc

pub sides : (s side : Side) → (s ≡ side) ⊎ (s ≡ other side)
sides A A = inl refl
sides A B = inr refl
sides B A = inr refl
sides B B = inl refl

pub role-roles : (s : Side) (w : Seen) → role_at s (roles_of w) ≡ (at s w).controlling
role-roles A w = refl
role-roles B w = refl

pub not-self : (b : Bool) → not b ≡ b → ⊥
not-self true h = cc
not-self false h = cc

-- the tie-breakers; whether roles are spoken of, and then which side has the greater tie-breaker, and its role; and the sides that never
-- become ICE-lite
pub record Setting : Type 0 where
  pub tie : Side → ℕ
  pub ranked : Bool
  pub greater : Side
  pub role : Bool
  pub greatest : ranked ≡ true → tie (other greater) < tie greater
  pub full : Side → Bool

-- ---- what is known of ids

-- a check with this id was sent by the side in the role
pub record Gone (es : List Emitted) (side : Side) (id : List ℕ) (role : Bool) : Type 0 where
  pub number : ℕ
  pub path : Path
  pub check : Issues es number side class.Request id path role

-- a request with this id came to the side from the other one, which had sent it
pub record Came (es : List Emitted) (side : Side) (id : List ℕ) : Type 0 where
  pub sent : ℕ
  pub path : Path
  pub role : Bool
  pub taken : ℕ
  pub check : Issues es sent (other side) class.Request id path role
  pub delivery : Takes es taken side class.Request id
  pub in_order : sent < taken

-- and the side answered it
pub record Replied (es : List Emitted) (side : Side) (id : List ℕ) : Type 0 where
  pub came : Came es side id
  pub number : ℕ
  pub path : Path
  pub role : Bool
  pub reply : Issues es number side class.Success id path role
  pub in_order : came.taken ≤ number

-- a request of the side: it claims the role in which it was sent, with the side's tie-breaker
pub record IsCheck (z : Setting) (es : List Emitted) (side : Side) (id : List ℕ) (controlling controlled : _) : Type 0 where
  pub role : Bool
  pub claims : Claims controlling controlled role (z.tie side)
  pub gone : Gone es side id role
  pub greater : z.ranked ≡ true → side ≡ z.greater → role ≡ z.role

-- what is known of a message that the side sent, by its class
abbrev pub Fact : Setting → List Emitted → Side → Class → Mail → Type 0
Fact z es side class.Request m = IsCheck z es side m.id m.ice_controlling m.ice_controlled
Fact z es side class.Success m = Replied es side m.id
Fact z es side class.Failure m = z.ranked ≡ true → (side ≡ z.greater) × Gone es (other side) m.id z.role
Fact z es side class.Indication m = ⊥
Fact z es side class.Unknown m = ⊥

-- an early request at the side
pub record Queued (z : Setting) (es : List Emitted) (side : Side) (q : RequestRecord) : Type 0 where
  pub check : IsCheck z es (other side) q.id q.ice_controlling q.ice_controlled
  pub came : Came es side q.id

-- a check that the side stores
pub record KeptBy (es : List Emitted) (side : Side) (k : Kept) : Type 0 where
  pub number : ℕ
  pub check : Issues es number side class.Request k.id k.path k.controlling
  pub no_clear : NoClear es number side

-- the invariant of one side
pub record Half (z : Setting) (es : List Emitted) (side : Side) (s : RoleState) : Type 0 where
  pub tie : s.tie_breaker ≡ z.tie side
  pub lite : z.full side ≡ true → s.lite ≡ false
  pub packets : (m : Mail) → Has s.packets (Some m) → Fact z es side m.class m
  pub queue : (q : RequestRecord) → Has s.queue q → Queued z es side q
  pub kept : (k : Kept) → Has s.kept k → KeptBy es side k
  pub traced : z.full side ≡ true → (path : Path) → Has s.valid path → Trace es side path

-- the invariant of the network model
pub record Carried (z : Setting) (es : List Emitted) (w : Seen) : Type 0 where
  pub half : (s : Side) → Half z es s (at s w)
  pub network : (l : InFlight) (m : Mail) → Has w.network l → l.mail ≡ Some m → Fact z es l.sender m.class m
  pub role : z.ranked ≡ true → (at z.greater w).controlling ≡ z.role

-- ---- the log grows

module _ (z : Setting) (es : List Emitted) (e : Emitted) where
  gone-grow : (side : Side) (id : List ℕ) (role : Bool) → Gone es side id role → Gone (es ++ e ∷ []) side id role
  gone-grow side id role g = record { number = g.number; path = g.path; check = issues-grow es e g.number side class.Request id g.path role g.check }

  came-grow : (side : Side) (id : List ℕ) → Came es side id → Came (es ++ e ∷ []) side id
  came-grow side id c = record {
    sent = c.sent;
    path = c.path;
    role = c.role;
    taken = c.taken;
    check = issues-grow es e c.sent (other side) class.Request id c.path c.role c.check;
    delivery = takes-grow es e c.taken side class.Request id c.delivery;
    in_order = c.in_order;
  }

  replied-grow : (side : Side) (id : List ℕ) → Replied es side id → Replied (es ++ e ∷ []) side id
  unfolding came-grow
  replied-grow side id r = record {
    came = came-grow side id r.came;
    number = r.number;
    path = r.path;
    role = r.role;
    reply = issues-grow es e r.number side class.Success id r.path r.role r.reply;
    in_order = r.in_order;
  }

  check-grow : (side : Side) (id : List ℕ) (a b : _) → IsCheck z es side id a b → IsCheck z (es ++ e ∷ []) side id a b
  check-grow side id a b c = record { role = c.role; claims = c.claims; gone = gone-grow side id c.role c.gone; greater = c.greater }

  pub fact-grow : (side : Side) (c : Class) (m : Mail) → Fact z es side c m → Fact z (es ++ e ∷ []) side c m
  fact-grow side class.Request m f = check-grow side m.id m.ice_controlling m.ice_controlled f
  fact-grow side class.Success m f = replied-grow side m.id f
  fact-grow side class.Failure m f = λ ranked. (let k = f ranked in (k.0, gone-grow (other side) m.id z.role k.1))
  fact-grow side class.Indication m f = f
  fact-grow side class.Unknown m f = f

  queued-grow : (side : Side) (q : RequestRecord) → Queued z es side q → Queued z (es ++ e ∷ []) side q
  queued-grow side q h = record { check = check-grow (other side) q.id q.ice_controlling q.ice_controlled h.check; came = came-grow side q.id h.came }

  kept-grow : (side : Side) (k : Kept) → (e.side ≡ Some side → e.clear ≡ false) → KeptBy es side k → KeptBy (es ++ e ∷ []) side k
  kept-grow side k go c = record {
    number = c.number;
    check = issues-grow es e c.number side class.Request k.id k.path k.controlling c.check;
    no_clear = no_clear-grow es e c.number side go c.no_clear;
  }

  -- a side that is not cleared keeps its invariant
  pub half-grow : (side : Side) (s : RoleState) → (e.side ≡ Some side → e.clear ≡ false) → Half z es side s → Half z (es ++ e ∷ []) side s
  half-grow side s go h = record {
    tie = h.tie;
    lite = h.lite;
    packets = λ m has. fact-grow side m.class m (h.packets m has);
    queue = λ q has. queued-grow side q (h.queue q has);
    kept = λ k has. kept-grow side k go (h.kept k has);
    traced = λ full path has. trace-grow es e side path go (h.traced full path has);
  }

-- ---- a side does something

-- a packet of the other side is delivered
pub record Brought (z : Setting) (es : List Emitted) (side : Side) (e : Emitted) (m : Mail) : Type 0 where
  pub fact : Fact z es (other side) m.class m
  pub accepted : e.accepted ≡ true
  pub moved : e.moved ≡ Some record { class = m.class; id = m.id }

pub record Turn (z : Setting) (es : List Emitted) (side : Side) (old : RoleState) (d : RoleEvent) (e : Emitted) (new : RoleState) : Type 0 where
  pub effect : RoleEffect old d new
  pub compares : z.ranked ≡ true → old.keeps ≡ false
  pub brought : (m : Mail) → d.accepts ≡ Some m → Brought z es side e m
  pub not_set : d.sets ≡ false
  pub full : z.full side ≡ true → d.makes_lite ≡ false
  pub side_is : e.side ≡ Some side
  pub via_is : e.via ≡ d.via
  pub issued_is : e.issued ≡ d.issued
  pub selected_is : e.selected_paths ≡ d.selected_paths
  pub clear_is : e.clear ≡ d.clears
  pub role_is : role_at side e.roles ≡ new.controlling

-- the request that is served, or is stored as an early request
pub record Arrived (z : Setting) (es : List Emitted) (side : Side) (e : Emitted) (q : RequestRecord) : Type 0 where
  pub check : IsCheck z es (other side) q.id q.ice_controlling q.ice_controlled
  pub came : Came (es ++ e ∷ []) side q.id
  pub in_time : came.taken ≤ length es

module _ (z : Setting) (es : List Emitted) (side : Side) (old new : RoleState) (d : RoleEvent) (e : Emitted) (t : Turn z es side old d e new) (h : Half z es side old) where
  -- the new entry
  issues_now : (c : Class) (id : List ℕ) (path : Path) (role : Bool) → d.issued ≡ Some record { path = path; class = c; id = id } → new.controlling ≡ role
      → Issues (es ++ e ∷ []) (length es) side c id path role
  issues_now c id path role issued role_is = record { entry = e; found = get-last es e; side_is = t.side_is; issued = t.issued_is ∙ issued; role_is = t.role_is ∙ role_is }

  takes_now : (c : Class) (id : List ℕ) → e.accepted ≡ true → e.moved ≡ Some record { class = c; id = id } → Takes (es ++ e ∷ []) (length es) side c id
  takes_now c id accepted moved = record { entry = e; found = get-last es e; side_is = t.side_is; accepted = accepted; moved = moved }

  -- a request that the delivery brings now
  brought_now : (q : RequestRecord) → IsCarriedIn d q → Arrived z es side e q
  brought_now q is =
      let m = is.mail in
      let b = t.brought m is.accepted in
      let fact : IsCheck z es (other side) m.id m.ice_controlling m.ice_controlled = subst (λ c. Fact z es (other side) c m) is.class b.fact in
      let check : IsCheck z es (other side) q.id q.ice_controlling q.ice_controlled =
      rw (is.id, is.ice_controlling, is.ice_controlled) fact in
      let gone = check.gone in
      let moved : e.moved ≡ Some record { class = class.Request; id = q.id } =
      b.moved ∙ ap (λ c. Some record { class = c; id = m.id }) is.class ∙ ap (λ i. Some record { class = class.Request; id = i }) (sym is.id) in
      record {
        check = check;
        came = record {
          sent = gone.number;
          path = gone.path;
          role = check.role;
          taken = length es;
          check = issues-grow es e gone.number (other side) class.Request q.id gone.path check.role gone.check;
          delivery = takes_now class.Request q.id b.accepted moved;
          in_order = slice_get_within es gone.number gone.check.entry gone.check.found;
        };
        in_time = omega arith;
      }

  pub arrived : (q : RequestRecord) → d.serves ≡ Some q → Arrived z es side e q
  unfolding came-grow
  arrived q serving = elim (t.effect.serves q serving) [
    | inl waited ↦ (
        let k = h.queue q waited in
        let within : k.came.taken < length es = slice_get_within es k.came.taken k.came.delivery.entry k.came.delivery.found in
        record { check = k.check; came = came-grow z es e side q.id k.came; in_time = omega (arith, within) })
    | inr now ↦ brought_now q now
  ]

  -- the contents of a message that is sent
  says_fact : (path : Path) (m : Mail) (c : Class) → (z.ranked ≡ true → side ≡ z.greater → old.controlling ≡ z.role) → d.issued ≡ Some record { path = path; class = c; id = m.id }
      → Conveys c old d m new.controlling → Fact z (es ++ e ∷ []) side c m
  says_fact path m class.Request greater issued says = record {
    role = old.controlling;
    claims = subst (λ tie. Claims m.ice_controlling m.ice_controlled old.controlling tie) h.tie says.0;
    gone = record { number = length es; path = path; check = issues_now class.Request m.id path old.controlling issued says.1 };
    greater = greater;
  }
  says_fact path m class.Success greater issued (q, serving, id_is) =
      let r = arrived q serving in
      subst (λ id. Replied (es ++ e ∷ []) side id) id_is (record {
        came = r.came;
        number = length es;
        path = path;
        role = new.controlling;
        reply = issues_now class.Success q.id path new.controlling (rw id_is issued) refl;
        in_order = r.in_time;
      })
  says_fact path m class.Failure greater issued (q, serving, id_is, insisting, stays) = λ ranked. (
      let r = arrived q serving in
      let k = sends_487-claims old q r.check.role (z.tie (other side)) (t.compares ranked) r.check.claims insisting in
      let le : z.tie (other side) ≤ z.tie side = subst (λ n. z.tie (other side) ≤ n) h.tie k.1 in
      let side_greater : side ≡ z.greater = elim (sides side z.greater) [
        | inl is ↦ is
        | inr lesser ↦ (
            let lt = z.greatest ranked in
            let back : z.tie z.greater ≤ z.tie (other z.greater) = subst (λ s. z.tie s ≤ z.tie (other z.greater)) (ap other lesser ∙ other-other z.greater) (subst (λ s. z.tie (other side) ≤ z.tie s) lesser le) in
            let none : ⊥ = omega (arith, lt, back) in
            absurd none)
      ] in
      let role_is : r.check.role ≡ z.role = sym k.0 ∙ greater ranked side_greater in (
        side_greater,
        subst (λ id. Gone (es ++ e ∷ []) (other side) id z.role) id_is
            (subst (λ b. Gone (es ++ e ∷ []) (other side) q.id b) role_is (gone-grow z es e (other side) q.id r.check.role r.check.gone)),
      ))
  says_fact path m class.Indication greater issued says = says
  says_fact path m class.Unknown greater issued says = says

  -- the side is not cleared, or has nothing left, and selected nothing
  abbrev IsBare : Type 0
  IsBare = (new.kept ≡ []) × (new.valid ≡ []) × (d.selected_paths ≡ [])

  cleared_or : (e.clear ≡ false) ⊎ IsBare
  cleared_or = elim d.clears as (λ b. d.clears ≡ b → (e.clear ≡ false) ⊎ IsBare) [ true ↦ λ is. inr (t.effect.cleared is) | false ↦ λ is. inl (t.clear_is ∙ is) ] refl

  -- the response to a pending transaction arrived: the check reached the other side, which answered it
  met_trace : (path : Path) → DistinctChecks es → e.clear ≡ false → MeetsSuccess old d path → Trace (es ++ e ∷ []) side path
  met_trace path distinct go is =
      let m = is.mail in
      let b = t.brought m is.accepted in
      let k : Kept = record { path = path; id = m.id; controlling = is.role } in
      let q = h.kept k is.kept in
      let replied : Replied es (other side) m.id = subst (λ c. Fact z es (other side) c m) is.class b.fact in
      let came = replied.came in
      let same_check : q.number ≡ came.sent = distinct q.number came.sent m.id path came.path side (other (other side)) is.role came.role q.check came.check in
      record {
        id = m.id;
        checked = q.number;
        delivered = came.taken;
        replied = replied.number;
        answered = length es;
        role = is.role;
        reply_path = replied.path;
        reply_role = replied.role;
        check = issues-grow es e q.number side class.Request m.id path is.role q.check;
        delivery = takes-grow es e came.taken (other side) class.Request m.id came.delivery;
        reply = issues-grow es e replied.number (other side) class.Success m.id replied.path replied.role replied.reply;
        answer = record {
          entry = e;
          found = get-last es e;
          side_is = t.side_is;
          accepted = b.accepted;
          moved = b.moved ∙ ap (λ c. Some record { class = c; id = m.id }) is.class;
        };
        in_order = (rw same_check came.in_order, replied.in_order, slice_get_within es replied.number replied.reply.entry replied.reply.found);
        no_clear = no_clear-grow es e q.number side (λ _. go) q.no_clear;
      }

  pub half_turn : (z.ranked ≡ true → side ≡ z.greater → old.controlling ≡ z.role) → DistinctChecks es → Half z (es ++ e ∷ []) side new
  half_turn greater distinct = record {
    tie = t.effect.tie_breaker t.not_set ∙ h.tie;
    lite = λ full. t.effect.lite (h.lite full) (t.full full);
    packets = λ m has. elim (t.effect.packets m has) [
      | inl was ↦ fact-grow z es e side m.class m (h.packets m was)
      | inr now ↦ says_fact now.path m m.class greater now.issued now.says
    ];
    queue = λ q has. elim (t.effect.queue q has) [
      | inl was ↦ queued-grow z es e side q (h.queue q was)
      | inr now ↦ (let r = brought_now q now in record { check = check-grow z es e (other side) q.id q.ice_controlling q.ice_controlled r.check; came = r.came })
    ];
    kept = λ k has. elim cleared_or [
      | inr bare ↦ absurd (subst (λ ks. Has ks k) bare.0 has)
      | inl go ↦ elim (t.effect.kept k has) [
        | inl was ↦ kept-grow z es e side k (λ _. go) (h.kept k was)
        | inr now ↦ record {
          number = length es;
          check = issues_now class.Request k.id k.path k.controlling now.0 (now.2 ∙ sym now.1);
          no_clear = λ m f from found is. elim (get-push_cases es m f e found)
              [ inl was ↦ (let within = slice_get_within es m f was in absurd (omega (arith, within, from))) | inr last ↦ rw (← last.1) go ];
        }
      ]
    ];
    traced = λ full path has. elim cleared_or [
      | inr bare ↦ absurd (subst (λ ps. Has ps path) bare.1 has)
      | inl go ↦ elim (t.effect.valid (h.lite full) (t.full full) path has) [
        | inl was ↦ trace-grow es e side path (λ _. go) (h.traced full path was)
        | inr met ↦ met_trace path distinct go met
      ]
    ];
  }

  -- a path that is selected
  pub selected_turn : z.full side ≡ true → DistinctChecks es → (path : Path) → Has e.selected_paths path → Trace (es ++ e ∷ []) side path
  selected_turn full distinct path has =
      let emitted : Has d.selected_paths path = subst (λ ps. Has ps path) t.selected_is has in
      elim cleared_or [
        | inr bare ↦ absurd (subst (λ ps. Has ps path) bare.2 emitted)
        | inl go ↦ elim (t.effect.selected_paths (h.lite full) (t.full full) path emitted) [
          | inl was ↦ trace-grow es e side path (λ _. go) (h.traced full path was)
          | inr met ↦ met_trace path distinct go met
        ]
      ]

  -- ---- roles

  module _ (ranked : z.ranked ≡ true) where
    -- the greater keeps its role
    pub greater_turn : side ≡ z.greater → old.controlling ≡ z.role → new.controlling ≡ z.role
    greater_turn is role = elim (t.effect.role t.not_set) [
      | inl stays ↦ stays ∙ role
      | inr switches ↦ elim switches [
        | inl yielding ↦ (
            let r = arrived yielding.0 yielding.1 in
            let k = switches_role-claims old yielding.0 r.check.role (z.tie (other side)) (t.compares ranked) r.check.claims yielding.2 in
            let lt = z.greatest ranked in
            let back : z.tie z.greater < z.tie (other z.greater) = subst (λ s. z.tie s < z.tie (other s)) is (subst (λ n. n < z.tie (other side)) h.tie k.1) in
            let none : ⊥ = omega (arith, lt, back) in
            absurd none)
        | inr by ↦ (
            let b = t.brought by.mail by.accepted in
            let f = subst (λ c. Fact z es (other side) c by.mail) by.class b.fact ranked in
            absurd (not-other side (f.0 ∙ sym is)))
      ]
    ]

    -- a 487 that a side accepts is for a check that carried the greater's role
    rejected_role : DistinctChecks es → MeetsConflict old d new → new.controlling ≡ not z.role
    rejected_role distinct by =
        let m = by.mail in
        let b = t.brought m by.accepted in
        let f = subst (λ c. Fact z es (other side) c m) by.class b.fact ranked in
        let gone : Gone es side m.id z.role = subst (λ s. Gone es s m.id z.role) (other-other side) f.1 in
        let k : Kept = record { path = by.kept.0; id = m.id; controlling = by.role } in
        let q = h.kept k by.kept.1 in
        let same_number = distinct q.number gone.number m.id k.path gone.path side side by.role z.role q.check gone.check in
        let same_entry : q.check.entry ≡ gone.check.entry = (let x = q.check.found in let y = gone.check.found in cc) in
        let role : by.role ≡ z.role = sym q.check.role_is ∙ ap (λ (y : Emitted). role_at side y.roles) same_entry ∙ gone.check.role_is in
        by.removes_expired ∙ ap not role

    -- a request that the lesser serves carries the greater's role
    request_role : side ≡ other z.greater → (q : RequestRecord) → (serving : d.serves ≡ Some q) → (arrived q serving).check.role ≡ z.role
    request_role is q serving = (arrived q serving).check.greater ranked (ap other is ∙ other-other z.greater)

    -- the lesser one does not switch back
    pub lesser_turn : DistinctChecks es → side ≡ other z.greater → old.controlling ≡ not z.role → new.controlling ≡ not z.role
    lesser_turn distinct is role = elim (t.effect.role t.not_set) [
      | inl stays ↦ stays ∙ role
      | inr switches ↦ elim switches [
        | inl yielding ↦ (
            let r = arrived yielding.0 yielding.1 in
            let k = switches_role-claims old yielding.0 r.check.role (z.tie (other side)) (t.compares ranked) r.check.claims yielding.2 in
            absurd (not-self z.role (sym role ∙ k.0 ∙ request_role is yielding.0 yielding.1)))
        | inr by ↦ rejected_role distinct by
      ]
    ]

    -- and it has the other role once it met the greater's
    pub met_turn : DistinctChecks es → side ≡ other z.greater
        → ((q : RequestRecord) × (d.serves ≡ Some q) × (old.passes q ≡ true)) ⊎ ((m : Mail) × (d.accepts ≡ Some m) × (m.class ≡ class.Failure) × (m.is_conflict ≡ true))
        → new.controlling ≡ not z.role
    met_turn distinct is (inl (q, serving, passing)) =
        let r = arrived q serving in
        let less : old.tie_breaker < z.tie (other side) =
        subst (λ n. n < z.tie (other side)) (sym h.tie) (subst (λ s. z.tie s < z.tie (other s)) (sym is) (subst (λ s. z.tie (other z.greater) < z.tie s) (sym (other-other z.greater)) (z.greatest ranked))) in
        t.effect.settled q serving passing ∙ settled-claims old q r.check.role (z.tie (other side)) (t.compares ranked) r.check.claims less ∙ ap not (request_role is q serving)
    met_turn distinct is (inr (m, accepts, class_is, conflict)) = rejected_role distinct (t.effect.expired (t.compares ranked) m accepts class_is conflict)

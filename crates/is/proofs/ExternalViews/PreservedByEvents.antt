-- Each event preserves what the log implies for the network model, and so does an execution.
use Rattle.is_stun.specs.declared.header.Class.TheVariants as class
use Rattle.is.proofs.Common.{[], ◌++◌, ◌+◌, ◌<◌, ◌∙◌, ◌∷◌, ◌≡◌, ◌≢◌, ◌≤◌, ◌⊎◌, A, AllByRecursion, ap, append-nil, append_assoc, arith, B}
use Rattle.is.proofs.Common.{Bool, changes, cond, false, Has, inl, inr, IsNewRoleState, List, Mail, not, other, Path, refl, RequestRecord}
use Rattle.is.proofs.Common.{RoleEvent, RoleState, same, Side, Some, subst, sym, true, zero-add, ℕ}
use Rattle.is.proofs.ExternalViews.NetworkModel.{InFlight, Seen, Emitted, Kind, Still, Move, Moves, Persists, Happening, Happens, Roles}
use Rattle.is.proofs.ExternalViews.NetworkModel.{Run, at, put, roles_of, role_at, emitted_of, Trace, Back, DistinctChecks, Start}
use Rattle.is.proofs.ExternalViews.NetworkModel.{Preconditions, Compares, AllCompare, StaysFull, NeverLite, roles_along, KeepsRole}
use Rattle.is.proofs.ExternalViews.NetworkModel.{SwitchesOnceIn, Meets, Point, DifferOnceMet, Traced, AnswersComeBack}
use Rattle.is.proofs.ExternalViews.EntriesOfGrowingLogs.{distinct-append}
use Rattle.is.proofs.ExternalViews.ImpliedByTheLog.{not-other, sides, role-roles, not-self, Setting, Fact, Half, Carried, Turn, fact-grow}
use Rattle.is.proofs.ExternalViews.ImpliedByTheLog.{half-grow, half_turn, selected_turn, greater_turn, lesser_turn, met_turn}

Has-append : {X : Type 0} (xs ys : List X) (x : X) → Has (xs ++ ys) x → Has xs x ⊎ Has ys x
Has-append [] ys x h = inr h
Has-append (y ∷ xs) ys x (inl e) = inl (inl e)
Has-append (y ∷ xs) ys x (inr h) = elim (Has-append xs ys x h) [ inl k ↦ inl (inr k) | inr k ↦ inr k ]

-- a side of the network model that moved
moved_same : (s : Side) (new : RoleState) (w : Seen) (network : List InFlight) → at s (record (put s new w) { network = network }) ≡ new
moved_same A new w network = refl
moved_same B new w network = refl

moved_other : (s : Side) (new : RoleState) (w : Seen) (network : List InFlight) → at (other s) (record (put s new w) { network = network }) ≡ at (other s) w
moved_other A new w network = refl
moved_other B new w network = refl

-- All sides that are required to be full agents stay so. If roles are spoken of, no lite agent that keeps its role does anything.
abbrev Fits : Setting → Kind → Type 0
Fits z kind = ((s : Side) → z.full s ≡ true → StaysFull s kind) × (z.ranked ≡ true → Compares kind)

module _ (z : Setting) (es : List Emitted) (w w' : Seen) (k : Carried z es w) where
  turn_of : (side : Side) (d : RoleEvent) (keeps : Bool) (e : Emitted) (m : Moves w side d keeps e w') → Fits z (Move side d keeps) → Turn z es side (at side w) d e m.new
  turn_of side d keeps e m fits = record {
    effect = m.effect;
    compares = λ ranked. m.keeps_is ∙ fits.1 ranked;
    brought = λ mail accepts.
        let l = m.delivered mail accepts in
        record { fact = subst (λ s. Fact z es s mail.class mail) l.sender (k.network l.in_flight mail l.there l.mail); accepted = l.accepted; moved = l.moved };
    not_set = m.not_set;
    full = λ is. fits.0 side is refl;
    side_is = m.side_is;
    via_is = m.via_is;
    issued_is = m.issued_is;
    selected_is = m.selected_is;
    clear_is = m.clear_is;
    role_is = ap (role_at side) (m.roles_are ∙ ap roles_of m.world) ∙ role-roles side (record (put side m.new w) { network = w.network ++ m.posted })
        ∙ ap (λ (s : RoleState). s.controlling) (moved_same side m.new w (w.network ++ m.posted));
  }

  moves_carried : (side : Side) (d : RoleEvent) (keeps : Bool) (e : Emitted) (m : Moves w side d keeps e w') → Fits z (Move side d keeps) → DistinctChecks es → Carried z (es ++ e ∷ []) w'
  moves_carried side d keeps e m fits distinct =
      let t = turn_of side d keeps e m fits in
      let after = record (put side m.new w) { network = w.network ++ m.posted } in
      let own = half_turn z es side (at side w) m.new d e t (k.half side) (λ ranked greater. rw greater (k.role ranked)) distinct in
      let moved : Carried z (es ++ e ∷ []) after = record {
        half = λ s. elim (sides s side) [
          | inl is ↦ subst (λ v. Half z (es ++ e ∷ []) v (at v after)) (sym is) (rw moved_same own)
          | inr is ↦ subst (λ v. Half z (es ++ e ∷ []) v (at v after)) (sym is)
              (rw moved_other (half-grow z es e (other side) (at (other side) w) (λ both. (let same_side : other side ≡ side = (let x = t.side_is in cc) in absurd (not-other side same_side))) (k.half (other side))))
        ];
        network = λ l mail has mail_is. elim (Has-append w.network m.posted l has) [
          | inl was ↦ fact-grow z es e l.sender mail.class mail (k.network l mail was mail_is)
          | inr now ↦ (
              let from = m.from_queue l now in
              fact-grow z es e l.sender mail.class mail
              (subst (λ s. Fact z es s mail.class mail) (sym from.0) ((k.half side).packets mail (subst (λ o. Has (at side w).packets o) mail_is from.1))))
        ];
        role = λ ranked. (
            let role = k.role ranked in
            elim (sides z.greater side) [
              | inl is ↦ subst (λ v. (at v after).controlling ≡ z.role) (sym is) (rw moved_same (greater_turn z es side (at side w) m.new d e t (k.half side) ranked (sym is) (rw is at role)))
              | inr is ↦ subst (λ v. (at v after).controlling ≡ z.role) (sym is) (rw moved_other (rw is at role))
            ]);
      } in
      subst (λ v. Carried z (es ++ e ∷ []) v) (sym m.world) moved

  persists_carried : (e : Emitted) → Persists w e w' → Carried z (es ++ e ∷ []) w'
  persists_carried e h = subst (λ v. Carried z (es ++ e ∷ []) v) (sym h.world) (record {
    half = λ s. half-grow z es e s (at s w) (λ _. h.clear_is) (k.half s);
    network = λ l m has is. fact-grow z es e l.sender m.class m (k.network l m has is);
    role = k.role;
  })

  -- each event preserves what the log implies
  carried : (kind : Kind) (e : Emitted) → Happens w kind e w' → Fits z kind → DistinctChecks es → Carried z (es ++ e ∷ []) w'
  carried Still e h fits distinct = persists_carried e h
  carried (Move side d keeps) e h fits distinct = moves_carried side d keeps e h fits distinct

  -- the lesser one does not switch back
  lesser_stays : z.ranked ≡ true → (kind : Kind) (e : Emitted) → Happens w kind e w' → Fits z kind → DistinctChecks es → (at (other z.greater) w).controlling ≡ not z.role
      → (at (other z.greater) w').controlling ≡ not z.role
  lesser_stays ranked Still e h fits distinct role = subst (λ v. (at (other z.greater) v).controlling ≡ not z.role) (sym h.world) role
  lesser_stays ranked (Move side d keeps) e m fits distinct role =
      let t = turn_of side d keeps e m fits in
      let after = record (put side m.new w) { network = w.network ++ m.posted } in
      subst (λ v. (at (other z.greater) v).controlling ≡ not z.role) (sym m.world) (elim (sides (other z.greater) side) [
        | inl is ↦ subst (λ v. (at v after).controlling ≡ not z.role) (sym is)
            (rw moved_same (lesser_turn z es side (at side w) m.new d e t (k.half side) ranked distinct (sym is) (rw is at role)))
        | inr is ↦ subst (λ v. (at v after).controlling ≡ not z.role) (sym is) (rw moved_other (rw is at role))
      ])

  -- and has the other role once it met the greater's
  lesser_met : z.ranked ≡ true → (kind : Kind) (e : Emitted) → Happens w kind e w' → Fits z kind → DistinctChecks es → Meets (other z.greater) w kind
      → (at (other z.greater) w').controlling ≡ not z.role
  lesser_met ranked Still e h fits distinct met = absurd met
  lesser_met ranked (Move side d keeps) e m fits distinct (is, met) =
      let t = turn_of side d keeps e m fits in
      let after = record (put side m.new w) { network = w.network ++ m.posted } in
      subst (λ v. (at (other z.greater) v).controlling ≡ not z.role) (sym m.world)
      (subst (λ v. (at v after).controlling ≡ not z.role) is
      (rw moved_same (met_turn z es side (at side w) m.new d e t (k.half side) ranked distinct is
      (subst (λ s. ((q : RequestRecord) × (d.serves ≡ Some q) × ((at s w).passes q ≡ true)) ⊎ ((n : Mail) × (d.accepts ≡ Some n) × (n.class ≡ class.Failure) × (n.is_conflict ≡ true))) (sym is) met))))

  -- a selected path has a causal chain
  traced_now : (kind : Kind) (e : Emitted) → Happens w kind e w' → Fits z kind → DistinctChecks es → (side : Side) → z.full side ≡ true → (path : Path)
      → e.side ≡ Some side → Has e.selected_paths path → Trace (es ++ e ∷ []) side path
  traced_now Still e h fits distinct side is path side_is has = absurd (subst (λ ps. Has ps path) h.selected_is has)
  traced_now (Move s d keeps) e m fits distinct side is path side_is has =
      let t = turn_of s d keeps e m fits in
      let same_side : s ≡ side = (let x = t.side_is in cc) in
      subst (λ v. Trace (es ++ e ∷ []) v path) same_side
      (selected_turn z es s (at s w) m.new d e t (k.half s) (subst (λ v. z.full v ≡ true) (sym same_side) is) distinct path has)

  -- a response that is accepted came back on the path of a check with its id
  back_now : (kind : Kind) (e : Emitted) → Happens w kind e w' → (side : Side) (id : List ℕ) → e.side ≡ Some side → e.accepted ≡ true
      → e.moved ≡ Some record { class = class.Success; id = id } → Back es side id e.via
  back_now Still e h side id side_is accepted moved = (let none = h.moved_is in cc)
  back_now (Move s d keeps) e m side id side_is accepted moved =
      let same_side : s ≡ side = (let x = m.side_is in cc) in
      let mail = m.accepts _ accepted moved in
      let a = m.awaited mail.0 mail.1 mail.2 in
      let q = (k.half s).kept _ a.kept in
      subst (λ v. Back es v id e.via) same_side (subst (λ i. Back es s i e.via) mail.3
      (record { number = q.number; path = a.path; role = a.role; check = q.check; via = a.via; came = m.via_is ∙ a.came; back = a.back }))

-- ---- executions

roles_emitted : (w w' : Seen) (kind : Kind) (e : Emitted) → Happens w kind e w' → e.roles ≡ roles_of w'
roles_emitted w w' Still e h = h.roles_are
roles_emitted w w' (Move side d keeps) e h = h.roles_are

abbrev AllFit : Setting → List Happening → Type 0
AllFit z log = AllByRecursion (λ x. Fits z x.kind) log

all_fit : (z : Setting) (log : List Happening) → ((s : Side) → z.full s ≡ true → NeverLite s log) → (z.ranked ≡ true → AllCompare log) → AllFit z log
all_fit z [] full compares = tt
all_fit z (x ∷ log) full compares = (
  ((λ s is. (let k = full s is in k.0)), (λ ranked. (let k = compares ranked in k.0))),
  all_fit z log (λ s is. (let k = full s is in k.1)) (λ ranked. (let k = compares ranked in k.1)),
)

-- one event of an execution: what is preserved, and the precondition for the rest
record Next (z : Setting) (so_far : List Emitted) (x : Happening) (mid : Seen) (rest : List Emitted) : Type 0 where
  distinct : DistinctChecks so_far
  distinct_rest : DistinctChecks ((so_far ++ x.emitted ∷ []) ++ rest)
  after : Carried z (so_far ++ x.emitted ∷ []) mid
  roles : (s : Side) → role_at s x.emitted.roles ≡ (at s mid).controlling

module _ (z : Setting) where
  next : (so_far : List Emitted) (w mid : Seen) (x : Happening) (rest : List Emitted) → Happens w x.kind x.emitted mid → Fits z x.kind
      → DistinctChecks (so_far ++ x.emitted ∷ rest) → Carried z so_far w → Next z so_far x mid rest
  next so_far w mid x rest h fits distinct k =
      let d = distinct-append so_far (x.emitted ∷ rest) distinct in
      record {
        distinct = d;
        distinct_rest = rw append_assoc distinct;
        after = carried z so_far w mid k x.kind x.emitted h fits d;
        roles = λ v. ap (role_at v) (roles_emitted w mid x.kind x.emitted h) ∙ role-roles v mid;
      }

  runs_carried : (so_far : List Emitted) (log : List Happening) (w last : Seen) → Run w log last → AllFit z log → DistinctChecks (so_far ++ emitted_of log)
      → Carried z so_far w → Carried z (so_far ++ emitted_of log) last
  runs_carried so_far [] w last is fits distinct k = subst (λ es. Carried z es last) (sym (append-nil so_far)) (subst (λ v. Carried z so_far v) (sym is) k)
  runs_carried so_far (x ∷ log) w last (mid, h, ran) fits distinct k =
      let n = next so_far w mid x (emitted_of log) h fits.0 distinct k in
      subst (λ es. Carried z es last) (append_assoc so_far (x.emitted ∷ []) (emitted_of log)) (runs_carried (so_far ++ x.emitted ∷ []) log mid last ran fits.1 n.distinct_rest n.after)

  runs_keep : z.ranked ≡ true → (so_far : List Emitted) (log : List Happening) (w last : Seen) → Run w log last → AllFit z log → DistinctChecks (so_far ++ emitted_of log)
      → Carried z so_far w → AllByRecursion (λ e. role_at z.greater e.roles ≡ z.role) (emitted_of log)
  runs_keep ranked so_far [] w last ran fits distinct k = tt
  runs_keep ranked so_far (x ∷ log) w last (mid, h, ran) fits distinct k =
      let n = next so_far w mid x (emitted_of log) h fits.0 distinct k in
      (n.roles z.greater ∙ n.after.role ranked, runs_keep ranked (so_far ++ x.emitted ∷ []) log mid last ran fits.1 n.distinct_rest n.after)

  runs_settled : z.ranked ≡ true → (so_far : List Emitted) (log : List Happening) (w last : Seen) → Run w log last → AllFit z log → DistinctChecks (so_far ++ emitted_of log)
      → Carried z so_far w → (at (other z.greater) w).controlling ≡ not z.role → AllByRecursion (λ e. role_at (other z.greater) e.roles ≡ not z.role) (emitted_of log)
  runs_settled ranked so_far [] w last ran fits distinct k role = tt
  runs_settled ranked so_far (x ∷ log) w last (mid, h, ran) fits distinct k role =
      let n = next so_far w mid x (emitted_of log) h fits.0 distinct k in
      let stays = lesser_stays z so_far w mid k ranked x.kind x.emitted h fits.0 n.distinct role in
      (n.roles (other z.greater) ∙ stays, runs_settled ranked (so_far ++ x.emitted ∷ []) log mid last ran fits.1 n.distinct_rest n.after stays)

-- a role that stays does not change

same-self : (b : Bool) → same b b ≡ true
same-self true = refl
same-self false = refl

one_of : (b r : Bool) → (b ≡ r) ⊎ (b ≡ not r)
one_of true true = inl refl
one_of true false = inr refl
one_of false true = inr refl
one_of false false = inl refl

changes_none : (side : Side) (role : Bool) (es : List Emitted) → AllByRecursion (λ e. role_at side e.roles ≡ role) es → changes role (roles_along side es) ≡ 0
changes_none side role [] all = refl
changes_none side role (e ∷ es) (is, all) = rw is (rw same-self (rw zero-add (changes_none side role es all)))

at_most_one : (b : Bool) (n : ℕ) → ((b ≡ true) × (n ≤ 1)) ⊎ (n ≡ 0) → cond b 0 1 + n ≤ 1
at_most_one true n (inl h) = (let le = h.1 in omega arith)
at_most_one true n (inr h) = omega arith
at_most_one false n (inl h) = (let never = h.0 in cc)
at_most_one false n (inr h) = omega arith

runs_switch : (z : Setting) → z.ranked ≡ true → (so_far : List Emitted) (log : List Happening) (w last : Seen) → Run w log last → AllFit z log → DistinctChecks (so_far ++ emitted_of log)
    → Carried z so_far w → changes (at (other z.greater) w).controlling (roles_along (other z.greater) (emitted_of log)) ≤ 1
runs_switch z ranked so_far [] w last ran fits distinct k = omega arith
runs_switch z ranked so_far (x ∷ log) w last (mid, h, ran) fits distinct k =
    let lesser = other z.greater in
    let n = next z so_far w mid x (emitted_of log) h fits.0 distinct k in
    let more = runs_switch z ranked (so_far ++ x.emitted ∷ []) log mid last ran fits.1 n.distinct_rest n.after in
    rw n.roles (at_most_one (same (at lesser w).controlling (at lesser mid).controlling) (changes (at lesser mid).controlling (roles_along lesser (emitted_of log)))
    (elim (one_of (at lesser mid).controlling z.role) [
      | inr differs ↦ inr (rw differs (changes_none lesser (not z.role) (emitted_of log) (runs_settled z ranked (so_far ++ x.emitted ∷ []) log mid last ran fits.1 n.distinct_rest n.after differs)))
      | inl equal ↦ elim (one_of (at lesser w).controlling z.role) [
        | inl was ↦ inl (rw (was, equal) (same-self z.role), more)
        | inr was ↦ absurd (not-self z.role (sym (lesser_stays z so_far w mid k ranked x.kind x.emitted h fits.0 n.distinct was) ∙ equal))
      ]
    ]))

-- ---- from the start

-- of roles: no side is required to be a full agent
of_roles : (first : Seen) (greater : Side) → (at (other greater) first).tie_breaker < (at greater first).tie_breaker → Setting
of_roles first greater less = record {
  tie = λ s. (at s first).tie_breaker;
  ranked = true;
  greater = greater;
  role = (at greater first).controlling;
  greatest = λ _. less;
  full = λ s. false;
}

-- of causal chains: roles are not spoken of
of_chains : (first : Seen) → (Side → Bool) → Setting
of_chains first full = record {
  tie = λ s. (at s first).tie_breaker;
  ranked = false;
  greater = A;
  role = (at A first).controlling;
  greatest = λ is. absurd (let wrong : false ≡ true = is in cc);
  full = full;
}

start_carried : (z : Setting) (first : Seen) (es : List Emitted) → Start first es → ((s : Side) → (at s first).tie_breaker ≡ z.tie s) → (at z.greater first).controlling ≡ z.role
    → Carried z [] first
start_carried z first es p tie role = record {
  half = λ s.
      let new : IsNewRoleState (at s first) = p.new s in
      record {
        tie = tie s;
        lite = λ _. new.lite;
        packets = λ m has. absurd (subst (λ ms. Has ms (Some m)) new.packets has);
        queue = λ q has. absurd (subst (λ qs. Has qs q) new.queue has);
        kept = λ k has. absurd (subst (λ ks. Has ks k) new.kept has);
        traced = λ _ path has. absurd (subst (λ ps. Has ps path) new.valid has);
      };
  network = λ l m has is. absurd (subst (λ ls. Has ls l) p.empty has);
  role = λ ranked. role;
}

roles_carried : (first : Seen) (greater : Side) (es : List Emitted) (p : Preconditions first greater es) → Carried (of_roles first greater p.tie) [] first
unfolding of_roles
roles_carried first greater es p = start_carried (of_roles first greater p.tie) first es p.start (λ s. refl) refl

chains_carried : (first : Seen) (es : List Emitted) (full : Side → Bool) → Start first es → Carried (of_chains first full) [] first
unfolding of_chains
chains_carried first es full p = start_carried (of_chains first full) first es p (λ s. refl) refl

roles_fit : (first : Seen) (greater : Side) (less : (at (other greater) first).tie_breaker < (at greater first).tie_breaker) (log : List Happening) → AllCompare log
    → AllFit (of_roles first greater less) log
unfolding of_roles
roles_fit first greater less log compares = all_fit (of_roles first greater less) log (λ s is. absurd (let wrong : false ≡ true = is in cc)) (λ ranked. compares)

abbrev is_side : Side → Side → Bool
is_side A A = true
is_side B B = true
is_side A B = false
is_side B A = false

is_side-is : (s side : Side) → is_side s side ≡ true → s ≡ side
is_side-is A A h = refl
is_side-is B B h = refl
is_side-is A B h = cc
is_side-is B A h = cc

is_side-self : (s : Side) → is_side s s ≡ true
is_side-self A = refl
is_side-self B = refl

pub keeps_role : (first last : Seen) (log : List Happening) → Run first log last → KeepsRole first log
unfolding of_roles
keeps_role first last log ran greater p compares =
    runs_keep (of_roles first greater p.tie) refl [] log first last ran (roles_fit first greater p.tie log compares) p.start.distinct (roles_carried first greater _ p)

pub switches_role_once : (first last : Seen) (log : List Happening) → Run first log last → SwitchesOnceIn first log
unfolding of_roles
switches_role_once first last log ran greater p compares =
    runs_switch (of_roles first greater p.tie) refl [] log first last ran (roles_fit first greater p.tie log compares) p.start.distinct (roles_carried first greater _ p)

-- ---- once met

emitted_of-append : (log more : List Happening) → emitted_of (log ++ more) ≡ emitted_of log ++ emitted_of more
emitted_of-append [] more = refl
emitted_of-append (x ∷ log) more = ap (λ es. x.emitted ∷ es) (emitted_of-append log more)

apart : (g : Side) (role : Bool) (r : Roles) → role_at g r ≡ role → role_at (other g) r ≡ not role → r.a ≢ r.b
apart A role r is differs both = not-self role (sym differs ∙ sym both ∙ is)
apart B role r is differs both = not-self role (sym differs ∙ both ∙ is)

all_apart : (g : Side) (role : Bool) (es : List Emitted) → AllByRecursion (λ e. role_at g e.roles ≡ role) es → AllByRecursion (λ e. role_at (other g) e.roles ≡ not role) es → AllByRecursion (λ e. e.roles.a ≢ e.roles.b) es
all_apart g role [] is differs = tt
all_apart g role (e ∷ es) (is, more_is) (differs, more_differ) = (apart g role e.roles is differs, all_apart g role es more_is more_differ)

all_cut : (z : Setting) (before : List Happening) (x : Happening) (rest : List Happening) → AllFit z (before ++ x ∷ rest) → AllFit z before × Fits z x.kind × AllFit z rest
all_cut z [] x rest fits = (tt, fits.0, fits.1)
all_cut z (y ∷ before) x rest fits = (let more = all_cut z before x rest fits.1 in ((fits.0, more.0), more.1, more.2))

-- what holds at an event of an execution
record AtPoint (z : Setting) (log before : List Happening) (mid : Seen) (x : Happening) (rest : List Happening) : Type 0 where
  distinct : DistinctChecks (emitted_of before ++ x.emitted ∷ emitted_of rest)
  carried_to : Carried z (emitted_of before) mid
  fits : Fits z x.kind
  fit_rest : AllFit z rest

at_point : (z : Setting) (first mid : Seen) (log before rest : List Happening) (x : Happening) → Point first log before mid x rest → DistinctChecks (emitted_of log) → AllFit z log
    → Carried z [] first → AtPoint z log before mid x rest
at_point z first mid log before rest x point distinct fits start =
    let whole : DistinctChecks (emitted_of before ++ x.emitted ∷ emitted_of rest) = subst DistinctChecks (ap emitted_of point.split ∙ emitted_of-append before (x ∷ rest)) distinct in
    let parts = all_cut z before x rest (subst (AllFit z) point.split fits) in
    record {
      distinct = whole;
      carried_to = runs_carried z [] before first mid point.led parts.0 (distinct-append (emitted_of before) (x.emitted ∷ emitted_of rest) whole) start;
      fits = parts.1;
      fit_rest = parts.2;
    }

pub differ_once_met : (first : Seen) (log : List Happening) → DifferOnceMet first log
unfolding of_roles
differ_once_met first log greater p compares before mid x rest point met =
    let z = of_roles first greater p.tie in
    let es = emitted_of before in
    let here = at_point z first mid log before rest x point p.start.distinct (roles_fit first greater p.tie log compares) (roles_carried first greater _ p) in
    let n = next z es mid point.after x (emitted_of rest) point.happens here.fits here.distinct here.carried_to in
    let role = lesser_met z es mid point.after here.carried_to refl x.kind x.emitted point.happens here.fits n.distinct met in
    all_apart greater (at greater first).controlling (emitted_of (x ∷ rest))
    (n.roles greater ∙ n.after.role refl, runs_keep z refl (es ++ x.emitted ∷ []) rest point.after point.last point.leads here.fit_rest n.distinct_rest n.after)
    (n.roles (other greater) ∙ role, runs_settled z refl (es ++ x.emitted ∷ []) rest point.after point.last point.leads here.fit_rest n.distinct_rest n.after role)

-- ---- after any execution

-- the greater's role and the tie-breakers are those of the start
pub record Reaches (first : Seen) (greater : Side) (mid : Seen) : Type 0 where
  pub role : (at greater mid).controlling ≡ (at greater first).controlling
  pub tie : (s : Side) → (at s mid).tie_breaker ≡ (at s first).tie_breaker

pub reaches : (first mid : Seen) (front : List Happening) (left : List Emitted) (greater : Side) → Preconditions first greater (emitted_of front ++ left) → AllCompare front
    → Run first front mid → Reaches first greater mid
unfolding of_roles
reaches first mid front left greater p compares ran =
    let z = of_roles first greater p.tie in
    let k = runs_carried z [] front first mid ran (roles_fit first greater p.tie front compares) (distinct-append (emitted_of front) left p.start.distinct) (roles_carried first greater _ p) in
    record { role = k.role refl; tie = λ s. (k.half s).tie }

both_apart : (g : Side) (role : Bool) (w : Seen) → (at g w).controlling ≡ role → (at (other g) w).controlling ≡ not role → w.a.controlling ≢ w.b.controlling
both_apart g role w is differs = apart g role (roles_of w) (role-roles g w ∙ is) (role-roles (other g) w ∙ differs)

other_apart : (g : Side) (role : Bool) (w : Seen) → (at g w).controlling ≡ role → w.a.controlling ≢ w.b.controlling → (at (other g) w).controlling ≡ not role
other_apart g role w is differs = elim (one_of (at (other g) w).controlling role) [ inr reversed ↦ reversed | inl same ↦ absurd (alike g is same) ] where
  alike : (g : Side) → (at g w).controlling ≡ role → (at (other g) w).controlling ≡ role → ⊥
  alike A one two = differs (one ∙ sym two)
  alike B one two = differs (two ∙ sym one)

-- the lesser one that meets the greater's role, or has the other one, has the other one
pub event_apart : (first w w' : Seen) (front : List Happening) (left : List Emitted) (kind : Kind) (e : Emitted) (greater : Side) → Preconditions first greater (emitted_of front ++ e ∷ left)
    → AllCompare front → Compares kind → Run first front w → Happens w kind e w' → Meets (other greater) w kind ⊎ (w.a.controlling ≢ w.b.controlling) → w'.a.controlling ≢ w'.b.controlling
unfolding of_roles
event_apart first w w' front left kind e greater p compares compares_now ran happens how =
    let z = of_roles first greater p.tie in
    let distinct = distinct-append (emitted_of front) (e ∷ left) p.start.distinct in
    let k = runs_carried z [] front first w ran (roles_fit first greater p.tie front compares) distinct (roles_carried first greater _ p) in
    let fits : Fits z kind = ((λ s is. absurd (let wrong : false ≡ true = is in cc)), (λ ranked. compares_now)) in
    let after = carried z (emitted_of front) w w' k kind e happens fits distinct in
    both_apart greater z.role w' (after.role refl) (elim how [
      | inl met ↦ lesser_met z (emitted_of front) w w' k refl kind e happens fits distinct met
      | inr differs ↦ lesser_stays z (emitted_of front) w w' k refl kind e happens fits distinct (other_apart greater z.role w (k.role refl) differs)
    ])

-- ---- selected paths

pub traced : (first : Seen) (log : List Happening) → Traced first log
unfolding of_chains
traced first log side p never before mid x rest point path side_is has =
    let only : Side → Bool = λ s. is_side s side in
    let z = of_chains first only in
    let fits = all_fit z log (λ s is. subst (λ v. NeverLite v log) (sym (is_side-is s side is)) never) (λ ranked. absurd (let wrong : false ≡ true = ranked in cc)) in
    let here = at_point z first mid log before rest x point p.distinct fits (chains_carried first _ only p) in
    let distinct = distinct-append (emitted_of before) (x.emitted ∷ emitted_of rest) here.distinct in
    traced_now z (emitted_of before) mid point.after here.carried_to x.kind x.emitted point.happens here.fits distinct side (is_side-self side) path side_is has

pub answers_come_back : (first : Seen) (log : List Happening) → AnswersComeBack first log
unfolding of_chains
answers_come_back first log side p before mid x rest point id side_is accepted moved =
    let none : Side → Bool = λ s. false in
    let z = of_chains first none in
    let fits = all_fit z log (λ s is. absurd (let wrong : false ≡ true = is in cc)) (λ ranked. absurd (let wrong : false ≡ true = ranked in cc)) in
    let here = at_point z first mid log before rest x point p.distinct fits (chains_carried first _ none p) in
    back_now z (emitted_of before) mid point.after here.carried_to x.kind x.emitted point.happens side id side_is accepted moved

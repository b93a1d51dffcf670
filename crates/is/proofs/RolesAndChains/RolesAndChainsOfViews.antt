-- Roles of two agents, and causal chains of the paths that they select, from executions with external views. What mutants/specifications
-- changes is read by tactics.
use Rattle.is_stun.specs.declared.header.Class.TheVariants as class
use Rattle.is_rules.specs.declared.credentials.IceCreds.{IceCreds}
use Rattle.is_rules.specs.Places.{local_place}
use Rattle.is_rules.specs.Steps as agent
use Rattle.is.specs.World as world
use Rattle.is.specs.WorldRoles.{Point}
use Rattle.is.proofs.Common.{[], ◌&&◌, ◌++◌, ◌<◌, ◌∙◌, ◌∷◌, ◌≡◌, ◌≢◌, ◌≤◌, ◌⊎◌, A, accepted_by, AgentRecord, AllByRecursion, ap, arith, B}
use Rattle.is.proofs.Common.{Bool, Brings, CandidateRecord, changes, Class, ComparesTies, Entry, false, fault_of, FreshIsSound}
use Rattle.is.proofs.Common.{GreaterKeeps, HaveDistinctIds, inl, inr, is_modern, is_role_conflict, is_some, IsFairWorld, IsNeverLite}
use Rattle.is.proofs.Common.{IsNewlyCreated, IsNewRoleState, IsNewWorld, IsServedPastTests, IsServing, IsSound, Issued, issued_as}
use Rattle.is.proofs.Common.{keeps_role, LesserSwitchesOnce, List, LoggedEvent, mail_of, mail_read, mail_unless, Makes, map, Message}
use Rattle.is.proofs.Common.{message_of, None, not, Option, option_map, other, ParseFault, Path, PathTheorem, refl, request_at, request_in}
use Rattle.is.proofs.Common.{request_when, RequestRecord, role_at, role_event_of, role_in, role_state_of, RolesDifferOnceMet, RoleTheorem}
use Rattle.is.proofs.Common.{Sent, sent_as, served_by, Side, slice_get, Some, StaysFull, Streams, subst, suc, sym, true, when_accepted}
use Rattle.is.proofs.Common.{when_done, WorldRecord, zero, ℕ}
use Rattle.is.proofs.ExternalViews.NetworkModel as seen
use Rattle.is.proofs.ExternalViews.NetworkModel.{Emitted, Kind, Move, Happening, Compares, AllCompare, emitted_of, roles_along, NeverLite}
use Rattle.is.proofs.ExternalViews.PreservedByEvents as runs
use Rattle.is.proofs.ExternalViews.ViewsOfExecutions as views
use Rattle.is.proofs.ExternalViews.ViewsOfExecutions.{seen_of, in_flight_as, roles_as, emitted_at, AreSound, Leaves, BothCompare, follow}
use Rattle.is.proofs.ExternalViews.ViewsOfExecutions.{event, none_keeps, compares_on}

-- ---- entries, as they are seen

pub get-map_back : {X Y : Type 0} (f : X → Y) (xs : List X) (n : ℕ) (y : Y) → slice_get (map f xs) n ≡ Some y → (x : X) × (slice_get xs n ≡ Some x) × (f x ≡ y)
get-map_back f [] n y h = absurd (let wrong : None ≡ Some y = h in cc)
get-map_back f (x ∷ xs) zero y h = (x, refl, (let e : Some (f x) ≡ Some y = h in cc))
get-map_back f (x ∷ xs) (suc n) y h = get-map_back f xs n y h

pub issued_back : (o : Option Issued) (path : Path) (c : Class) (id : List ℕ) → option_map sent_as o ≡ Some record { path = path; class = c; id = id } → o ≡ Some (issued_as path c id)
issued_back None path c id h = absurd (let s : Sent = record { path = path; class = c; id = id } in let wrong : None ≡ Some s = h in cc)
issued_back (Some i) path c id h =
    let s : Sent = record { path = path; class = c; id = id } in
    let e : sent_as i ≡ s = (let w : Some (sent_as i) ≡ Some s = h in cc) in
    ap Some (ap (λ (x : Sent). issued_as x.path x.class x.id) e)

module _ {P : Type 0} where
  entry_at : (log : List (LoggedEvent P)) (n : ℕ) (e : Emitted) → slice_get (map emitted_at log) n ≡ Some e → (x : LoggedEvent P) × (slice_get log n ≡ Some x) × (emitted_at x ≡ e)
  entry_at log n e h = get-map_back emitted_at log n e h

  distinct_seen : (log : List (LoggedEvent P)) → HaveDistinctIds log → seen.DistinctChecks (map emitted_at log)
  distinct_seen log distinct i j id p q s t b c x y =
      let k = entry_at log i x.entry x.found in
      let l = entry_at log j y.entry y.found in
      distinct i j id p q k.0 l.0 k.1 l.1
      (issued_back k.0.outcome.entry.emitted.issued p class.Request id (ap (λ (e : Emitted). e.issued) k.2 ∙ x.issued))
      (issued_back l.0.outcome.entry.emitted.issued q class.Request id (ap (λ (e : Emitted). e.issued) l.2 ∙ y.issued))

-- ---- from the start

new_seen : {H P : Type 0} (a : AgentRecord H P) → IsNewlyCreated a → IsNewRoleState (role_state_of a)
new_seen a (creds, tie, role, is) = subst (λ (x : AgentRecord _ _). IsNewRoleState (role_state_of x)) (sym is)
    (record { lite = refl; queue = refl; packets = refl; kept = refl; valid = refl })

pub sound_new : {H P : Type 0} → FreshIsSound H P → (a : AgentRecord H P) → IsNewlyCreated a → IsSound a
sound_new sound a (creds, tie, role, is) =
    let s = sound a.provider creds tie in
    subst (λ (x : AgentRecord _ _). IsSound x) (sym is) (record {
      placed = s.placed;
      rising = s.rising;
      below = s.below;
      selected_paths = s.selected_paths;
      started = s.started;
      consented = s.consented;
      checks = s.checks;
      queued = s.queued;
      based = s.based;
    })

pub start_seen : {H P : Type 0} (first : WorldRecord H P) (log : List (LoggedEvent P)) (es : List Emitted) → es ≡ map emitted_at log → IsNewWorld first log → seen.Start (seen_of first) es
start_seen first log es same p =
    let none : first.network ≡ [] = search p.empty in
    let distinct : HaveDistinctIds log = search p.distinct in
    record {
      new = new_at;
      empty = ap (map in_flight_as) none;
      distinct = subst seen.DistinctChecks (sym same) (distinct_seen log distinct);
    }
  where
    new_at : (s : Side) → IsNewRoleState (seen.at s (seen_of first))
    new_at A = new_seen first.a (search (p.new A))
    new_at B = new_seen first.b (search (p.new B))

pub preconditions_seen : {H P : Type 0} (first : WorldRecord H P) (greater : Side) (log : List (LoggedEvent P)) (es : List Emitted) → es ≡ map emitted_at log → IsFairWorld first greater log
    → seen.Preconditions (seen_of first) greater es
preconditions_seen first greater log es same p = record {
  start = start_seen first log es same p.start;
  tie = less greater (omega (arith, p.tie));
}
  where
    less : (g : Side) → (world.at (other g) first).tie_breaker < (world.at g first).tie_breaker → (seen.at (other g) (seen_of first)).tie_breaker < (seen.at g (seen_of first)).tie_breaker
    less A h = h
    less B h = h

pub sound_first : {H P : Type 0} → FreshIsSound H P → (first : WorldRecord H P) (log : List (LoggedEvent P)) → IsNewWorld first log → AreSound first
sound_first sound first log p side = sound_new sound (world.at side first) (search (p.new side))

-- ---- neither keeps its role as a lite agent

abbrev pub way : {P : Type 0} (side : Side) (log : List (LoggedEvent P)) → ComparesTies side log → Bool
way side log (inl full) = true
way side log (inr off) = false

-- for each side, which precondition holds
abbrev pub how_of : {H P : Type 0} (first : WorldRecord H P) (greater : Side) (log : List (LoggedEvent P)) → IsFairWorld first greater log → Side → Bool
how_of first greater log p side = way side log (p.compares side)

abbrev pub LeaveAll : {P : Type 0} → (Side → Bool) → List (LoggedEvent P) → Type 0
LeaveAll how log = (side : Side) → AllByRecursion (λ x. Leaves (how side) side x.event) log

pub leaves_all : {H P : Type 0} (first : WorldRecord H P) (greater : Side) (log : List (LoggedEvent P)) (p : IsFairWorld first greater log) → LeaveAll (how_of first greater log p) log
leaves_all first greater log p side = by (p.compares side) where
  by : (y : ComparesTies side log) → AllByRecursion (λ x. Leaves (way side log y) side x.event) log
  by (inl full) = full
  by (inr off) = off

pub compares_first : {H P : Type 0} (first : WorldRecord H P) (greater : Side) (log : List (LoggedEvent P)) (p : IsFairWorld first greater log) → BothCompare (how_of first greater log p) first
compares_first first greater log p side = by (how_of first greater log p side) (search (p.start.new side)) where
  by : (b : Bool) → IsNewlyCreated (world.at side first) → views.Compares b (world.at side first)
  by true (creds, tie, role, is) = ap (λ a. a.lite) is
  by false (creds, tie, role, is) = ap (λ a. is_modern a.timing) is

-- ---- roles

role_as : (side : Side) (roles : List Bool) → seen.role_at side (roles_as roles) ≡ role_at side roles
role_as A (a ∷ b ∷ rest) = refl
role_as A (a ∷ []) = refl
role_as A [] = refl
role_as B (a ∷ b ∷ rest) = refl
role_as B (a ∷ []) = refl
role_as B [] = refl

pub role_of : {H P : Type 0} (side : Side) (w : WorldRecord H P) → (seen.at side (seen_of w)).controlling ≡ (world.at side w).controlling
role_of A w = refl
role_of B w = refl

all_keep : {P : Type 0} (side : Side) (role : Bool) (log : List (LoggedEvent P)) → AllByRecursion (λ (e : Emitted). seen.role_at side e.roles ≡ role) (map emitted_at log) → AllByRecursion (λ x. role_in side x ≡ role) log
all_keep side role [] all = tt
all_keep side role (x ∷ log) (is, all) = (sym (role_as side x.outcome.controlling) ∙ is, all_keep side role log all)

along : {P : Type 0} (side : Side) (log : List (LoggedEvent P)) → roles_along side (map emitted_at log) ≡ map (role_in side) log
along side [] = refl
along side (x ∷ log) = ap (λ r. r ∷ roles_along side (map emitted_at log)) (role_as side x.outcome.controlling) ∙ ap (λ rs. role_in side x ∷ rs) (along side log)

all_differ : {P : Type 0} (log : List (LoggedEvent P)) → AllByRecursion (λ (e : Emitted). e.roles.a ≢ e.roles.b) (map emitted_at log) → AllByRecursion (λ x. role_in A x ≢ role_in B x) log
all_differ [] all = tt
all_differ (x ∷ log) (is, all) = (λ both. is (role_as A x.outcome.controlling ∙ both ∙ sym (role_as B x.outcome.controlling)), all_differ log all)

pub map-append : {X Y : Type 0} (f : X → Y) (xs ys : List X) → map f (xs ++ ys) ≡ map f xs ++ map f ys
map-append f [] ys = refl
map-append f (x ∷ xs) ys = ap (λ zs. f x ∷ zs) (map-append f xs ys)

all-cut : {X : Type 0} (Is : X → Type 0) (xs ys : List X) → AllByRecursion Is (xs ++ ys) → AllByRecursion Is xs × AllByRecursion Is ys
all-cut Is [] ys all = (tt, all)
all-cut Is (x ∷ xs) ys all = (let more = all-cut Is xs ys all.1 in ((all.0, more.0), more.1))

all-join : {X : Type 0} (Is : X → Type 0) (xs ys : List X) → AllByRecursion Is xs → AllByRecursion Is ys → AllByRecursion Is (xs ++ ys)
all-join Is [] ys all more = more
all-join Is (x ∷ xs) ys all more = (all.0, all-join Is xs ys all.1 more)

-- ---- what was served and accepted

served_request : (f : Option ParseFault) (c : Class) (peer : Option IceCreds) (q : RequestRecord) → f ≡ None → c ≡ class.Request → is_some peer ≡ true → request_when f c peer q ≡ Some q
served_request None class.Request (Some peer) q faultless request known = refl
served_request f c None q faultless request known = absurd (let wrong : false ≡ true = known in cc)
served_request (Some fault) c peer q faultless request known = absurd (let wrong : Some fault ≡ None = faultless in cc)
served_request f class.Success peer q faultless request known = cc
served_request f class.Failure peer q faultless request known = cc
served_request f class.Indication peer q faultless request known = cc
served_request f class.Unknown peer q faultless request known = cc

brings_to : {P : Type 0} (c : agent.Call P) (e : Entry) (at : ℕ) (by : Path) (m : Message) → Brings c e at by m → accepted_by c e.answer ≡ Some (mail_of m)
brings_to (agent.ReceivePacket now via bytes) e at by m (at_is, by_is, reads, flag) =
    ap (λ a. when_accepted a (mail_read bytes)) flag ∙ ap (λ f. mail_unless f (message_of bytes)) reads.faultless ∙ ap (λ (x : Message). Some (mail_of x)) (sym reads.spelled)
brings_to c e at by m h = absurd h

module _ {H P : Type 0} where
  serves_to : (old : AgentRecord H P) (c : agent.Call P) (e : Entry) (q : RequestRecord) → IsServing old c e q → served_by old c e.answer ≡ Some q
  serves_to old (agent.ReceivePacket now via bytes) e q (at, by, m, (at_is, by_is, reads, flag), request, known, is) =
      let r = request_in now via (message_of bytes) in
      let request_is : (message_of bytes).class ≡ class.Request = ap (λ (x : Message). x.class) (sym reads.spelled) ∙ request in
      ap (λ a. when_accepted a (request_when (fault_of bytes) (message_of bytes).class old.remote_creds r)) flag
      ∙ served_request (fault_of bytes) (message_of bytes).class old.remote_creds r reads.faultless request_is known
      ∙ ap Some (ap (λ (x : Message). request_in now via x) (sym reads.spelled) ∙ ap (λ n. request_in n via m) at_is ∙ ap (λ w. request_in at w m) by_is ∙ sym is)
  serves_to old (agent.HandleTimeout now) e q (is, flag) = ap (λ a. when_done a (request_at now old)) flag ∙ is
  serves_to old c e q h = absurd h.3

  passes_so : (old : AgentRecord H P) (q : RequestRecord) → IsServedPastTests old q → (role_state_of old).passes q ≡ true
  passes_so old q (named, (place, is)) = ap (λ b. not b && is_some (local_place old.local q)) named ∙ ap (λ o. is_some o) is

  pub met_seen : (side : Side) (w : WorldRecord H P) (c : agent.Call P) (e : Entry) (kind : Kind) → kind ≡ Move side (role_event_of (world.at side w) c e) (keeps_role (world.at side w))
      → ((q : RequestRecord) × IsServing (world.at side w) c e q × IsServedPastTests (world.at side w) q)
      ⊎ ((now : ℕ) × (via : Path) × (m : Message) × Brings c e now via m × (m.class ≡ class.Failure) × (is_role_conflict m ≡ true))
      → seen.Meets side (seen_of w) kind
  met_seen side w c e kind is met = subst (λ k. seen.Meets side (seen_of w) k) (sym is) (
    refl,
    elim met [
      | inl served ↦ inl (served.0, serves_to (world.at side w) c e served.0 served.1, passes_at side w served.0 (passes_so (world.at side w) served.0 served.2))
      | inr rejected ↦ (let (now, via, m, brings, failure, conflict) = rejected in inr (mail_of m, brings_to c e now via m brings, failure, conflict))
    ],
  )
    where
      passes_at : (s : Side) (v : WorldRecord H P) (q : RequestRecord) → (role_state_of (world.at s v)).passes q ≡ true → (seen.at s (seen_of v)).passes q ≡ true
      passes_at A v q h = h
      passes_at B v q h = h

  -- an event of an execution, as it is observed
  pub record Sight (first : WorldRecord H P) (log front : List (LoggedEvent P)) (mid : WorldRecord H P) (x : LoggedEvent P) (rest : List (LoggedEvent P)) : Type 0 where
    pub whole : List Happening
    pub before : List Happening
    pub here : Happening
    pub following : List Happening
    pub point : seen.Point (seen_of first) whole before (seen_of mid) here following
    pub emitted : emitted_of whole ≡ map emitted_at log
    pub emitted_before : emitted_of before ≡ map emitted_at front
    pub emitted_here : here.emitted ≡ emitted_at x
    pub emitted_after : emitted_of following ≡ map emitted_at rest
    pub made : (side : Side) (c : agent.Call P) → Makes mid x.event side c → here.kind ≡ Move side (role_event_of (world.at side mid) c x.outcome.entry) (keeps_role (world.at side mid))
    pub full : (side : Side) → IsNeverLite side log → NeverLite side whole
    pub compares : (how : Side → Bool) → BothCompare how first → LeaveAll how log → AllCompare whole

  module _ (mac : H → List ℕ → List ℕ → List ℕ) (answers : P → CandidateRecord → ℕ → ℕ → Type 0) (paths : PathTheorem {H = H} {P = P} mac answers) (roles : RoleTheorem {H = H} {P = P} mac answers) (fresh_sound : FreshIsSound H P) where
    pub greater_keeps : (first last : WorldRecord H P) (s t : Streams) (n : ℕ) (log : List (LoggedEvent P)) → world.WorldRun mac answers first s n log last t → GreaterKeeps first log
    greater_keeps first last s t n log ran greater p =
        let k = follow mac answers paths roles log first last s t n (sound_first fresh_sound first log p.start) ran in
        let compared = k.compares (how_of first greater log p) (compares_first first greater log p) (leaves_all first greater log p) in
        let all = runs.keeps_role (seen_of first) (seen_of last) k.seen_log k.ran greater (preconditions_seen first greater log (emitted_of k.seen_log) k.emitted p) compared.0 in
        all_keep greater (world.at greater first).controlling log
        (subst (λ r. AllByRecursion (λ (e : Emitted). seen.role_at greater e.roles ≡ r) (map emitted_at log)) (role_of greater first)
        (subst (λ es. AllByRecursion (λ (e : Emitted). seen.role_at greater e.roles ≡ (seen.at greater (seen_of first)).controlling) es) k.emitted all))

    pub lesser_switches_once : (first last : WorldRecord H P) (s t : Streams) (n : ℕ) (log : List (LoggedEvent P)) → world.WorldRun mac answers first s n log last t → LesserSwitchesOnce first log
    lesser_switches_once first last s t n log ran greater p =
        let k = follow mac answers paths roles log first last s t n (sound_first fresh_sound first log p.start) ran in
        let compared = k.compares (how_of first greater log p) (compares_first first greater log p) (leaves_all first greater log p) in
        let once = runs.switches_role_once (seen_of first) (seen_of last) k.seen_log k.ran greater (preconditions_seen first greater log (emitted_of k.seen_log) k.emitted p) compared.0 in
        subst (λ r. changes r (map (role_in (other greater)) log) ≤ 1) (role_of (other greater) first)
        (subst (λ rs. changes (seen.at (other greater) (seen_of first)).controlling rs ≤ 1) (ap (roles_along (other greater)) k.emitted ∙ along (other greater) log) once)

    pub sight : (first mid : WorldRecord H P) (s : Streams) (log rest : List (LoggedEvent P)) (x : LoggedEvent P) → AreSound first → (point : Point mac answers first s log mid x rest) → Sight first log point.before mid x rest
    sight first mid s log rest x sound point =
        let one = follow mac answers paths roles point.before first mid s point.u 0 sound point.led in
        let two = event mac answers paths roles mid point.after point.u point.v x one.sound point.happens in
        let three = follow mac answers paths roles rest point.after point.last point.v point.t point.n two.sound point.leads in
        let h : Happening = record { kind = two.kind; emitted = emitted_at x } in
        record {
          whole = one.seen_log ++ h ∷ three.seen_log;
          before = one.seen_log;
          here = h;
          following = three.seen_log;
          point = record { split = refl; after = seen_of point.after; last = seen_of point.last; led = one.ran; happens = two.happens; leads = three.ran };
          emitted = map-append (λ (y : Happening). y.emitted) one.seen_log (h ∷ three.seen_log)
              ∙ ap (λ es. es ++ emitted_at x ∷ emitted_of three.seen_log) one.emitted ∙ ap (λ es. map emitted_at point.before ++ emitted_at x ∷ es) three.emitted
              ∙ sym (map-append emitted_at point.before (x ∷ rest)) ∙ ap (map emitted_at) (sym point.split);
          emitted_before = one.emitted;
          emitted_here = refl;
          emitted_after = three.emitted;
          made = two.made;
          full = λ side never. (
              let parts = all-cut (λ (y : LoggedEvent P). StaysFull side y.event) point.before (x ∷ rest) (subst (λ xs. IsNeverLite side xs) point.split never) in
              all-join (λ (y : Happening). seen.StaysFull side y.kind) one.seen_log (h ∷ three.seen_log) (one.full side parts.0) (two.full side parts.1.0, three.full side parts.1.1));
          compares = λ how compare leaves. (
              let parts = λ (side : Side). all-cut (λ (y : LoggedEvent P). Leaves (how side) side y.event) point.before (x ∷ rest)
              (subst (λ xs. AllByRecursion (λ y. Leaves (how side) side y.event) xs) point.split (leaves side)) in
              let before = one.compares how compare (λ side. (let k = parts side in k.0)) in
              let next = compares_on mac answers paths roles how mid point.after point.u point.v x one.sound before.1 (λ side. (let k = parts side in k.1.0)) point.happens in
              let later = three.compares how next (λ side. (let k = parts side in k.1.1)) in
              all-join (λ (y : Happening). Compares y.kind) one.seen_log (h ∷ three.seen_log) before.0 (two.compares (none_keeps how mid before.1), later.0));
        }

    pub roles_differ_once_met : (first : WorldRecord H P) (s : Streams) (log : List (LoggedEvent P)) → RolesDifferOnceMet mac answers first s log
    roles_differ_once_met first s log greater p mid x rest point (c, makes, met) =
        let k = sight first mid s log rest x (sound_first fresh_sound first log p.start) point in
        let compared = k.compares (how_of first greater log p) (compares_first first greater log p) (leaves_all first greater log p) in
        let meeting = met_seen (other greater) mid c x.outcome.entry k.here.kind (k.made (other greater) c makes) met in
        let all = runs.differ_once_met (seen_of first) k.whole greater (preconditions_seen first greater log (emitted_of k.whole) k.emitted p) compared k.before (seen_of mid) k.here k.following k.point meeting in
        all_differ (x ∷ rest) (subst (λ es. AllByRecursion (λ (e : Emitted). e.roles.a ≢ e.roles.b) es) (ap (λ e. e ∷ emitted_of k.following) k.emitted_here ∙ ap (λ es. emitted_at x ∷ es) k.emitted_after) all)

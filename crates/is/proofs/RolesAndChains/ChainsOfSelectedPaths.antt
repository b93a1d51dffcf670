-- Each selected path has a causal chain, and its response came back on the path. What mutants/specifications changes is read by tactics.
use Rattle.is_stun.specs.declared.header.Class.TheVariants as class
use Rattle.is.specs.declared.calls.Answer as code
use Rattle.is.specs.declared.calls.Answer.TheVariants as answer
use Rattle.is.specs.World as world
use Rattle.is.specs.declared.world_events.WorldLog.{WorldLog}
use Rattle.is.specs.WorldRoles.{Point}
use Rattle.is.proofs.Common.{[], ◌++◌, ◌<◌, ◌∙◌, ◌∷◌, ◌≡◌, ◌≤◌, ◌⊎◌, AllByRecursion, answer_view, ap, arith, Bool, CandidateRecord, changes}
use Rattle.is.proofs.Common.{Class, ComesBack, Event, false, FreshIsSound, GreaterKeeps, HandlesMessage, Has, HaveDistinctIds, inl, inr}
use Rattle.is.proofs.Common.{IsAt, IsNeverLite, IsNewWorld, Issued, issued_as, Issues, IsTrace, IsUncleared, IsWorldLog, length}
use Rattle.is.proofs.Common.{LesserSwitchesOnce, List, logged, logged_as, LoggedEvent, map, MatchBool, None, Option, option_map}
use Rattle.is.proofs.Common.{option_map_or, other, Path, PathTheorem, refl, role_in, RoleTheorem, SelectedAreTraced, SelectsPathAt, Side}
use Rattle.is.proofs.Common.{slice_get, slice_get_within, Some, some_paths, Streams, subst, suc, sym, Trace, TransId, true, TwoAgentsEvent}
use Rattle.is.proofs.Common.{WorldEntry, WorldRecord, zero, ℕ}
use Rattle.is.proofs.ExternalViews.NetworkModel as seen
use Rattle.is.proofs.ExternalViews.NetworkModel.{Moved, Emitted, emitted_of}
use Rattle.is.proofs.ExternalViews.PreservedByEvents as runs
use Rattle.is.proofs.ExternalViews.ViewsOfExecutions.{seen_of, moved_as, is_yes, via_in, emitted_at}
use Rattle.is.proofs.RolesAndChains.RolesAndChainsOfViews.{get-map_back, issued_back, start_seen, sound_first, Sight, sight, greater_keeps}
use Rattle.is.proofs.RolesAndChains.RolesAndChainsOfViews.{lesser_switches_once}

-- ---- lists

get-front : {X : Type 0} (xs ys : List X) (n : ℕ) (x : X) → slice_get (xs ++ ys) n ≡ Some x → n < length xs → slice_get xs n ≡ Some x
get-front [] ys n x h less = absurd (let none : ⊥ = omega (arith, less) in none)
get-front (y ∷ xs) ys zero x h less = h
get-front (y ∷ xs) ys (suc n) x h less = get-front xs ys n x h (omega (arith, less))

get-append : {X : Type 0} (xs ys : List X) (n : ℕ) (x : X) → slice_get xs n ≡ Some x → slice_get (xs ++ ys) n ≡ Some x
get-append [] ys n x h = cc
get-append (y ∷ xs) ys zero x h = h
get-append (y ∷ xs) ys (suc n) x h = get-append xs ys n x h

get-map : {X Y : Type 0} (f : X → Y) (xs : List X) (n : ℕ) (x : X) → slice_get xs n ≡ Some x → slice_get (map f xs) n ≡ Some (f x)
get-map f [] n x h = cc
get-map f (y ∷ xs) zero x h = (let same : y ≡ x = cc in ap (λ z. Some (f z)) same)
get-map f (y ∷ xs) (suc n) x h = get-map f xs n x h

length-push : {X : Type 0} (xs : List X) (x : X) → length (xs ++ x ∷ []) ≡ suc (length xs)
length-push [] x = refl
length-push (y ∷ xs) x = ap suc (length-push xs x)

map-push : {X Y : Type 0} (f : X → Y) (xs : List X) (x : X) → map f (xs ++ x ∷ []) ≡ map f xs ++ f x ∷ []
map-push f [] x = refl
map-push f (y ∷ xs) x = ap (λ ys. f y ∷ ys) (map-push f xs x)

sym_assoc : {X : Type 0} (xs : List X) (x : X) (ys : List X) → xs ++ x ∷ ys ≡ (xs ++ x ∷ []) ++ ys
sym_assoc [] x ys = refl
sym_assoc (y ∷ xs) x ys = ap (λ zs. y ∷ zs) (sym_assoc xs x ys)

-- the front and the rest of a list at a number
record Cut {X : Type 0} (xs : List X) (n : ℕ) (x : X) : Type 0 where
  front : List X
  rest : List X
  whole : xs ≡ front ++ x ∷ rest
  count : length front ≡ n

cut_at : {X : Type 0} (xs : List X) (n : ℕ) (x : X) → slice_get xs n ≡ Some x → Cut xs n x
cut_at [] n x h = absurd (let wrong : None ≡ Some x = h in cc)
cut_at (y ∷ xs) zero x h = record { front = []; rest = xs; whole = (let same : y ≡ x = cc in ap (λ z. z ∷ xs) same); count = refl }
cut_at (y ∷ xs) (suc n) x h =
    let more = cut_at xs n x h in record { front = y ∷ more.front; rest = more.rest; whole = ap (λ zs. y ∷ zs) more.whole; count = ap suc more.count }

paths_has : (ps : List (Option Path)) (place : ℕ) (path : Path) → slice_get ps place ≡ Some (Some path) → Has (some_paths ps) path
paths_has [] place path h = absurd (let wrong : None ≡ Some (Some path) = h in cc)
paths_has (Some p ∷ ps) zero path h = inl (let e : Some (Some p) ≡ Some (Some path) = h in cc)
paths_has (None ∷ ps) zero path h = absurd (let e : Some None ≡ Some (Some path) = h in cc)
paths_has (Some p ∷ ps) (suc place) path h = inr (paths_has ps place path h)
paths_has (None ∷ ps) (suc place) path h = paths_has ps place path h

-- ---- entries

yes_view : (a : code.Answer) → is_yes (answer_view a) ≡ true → a ≡ answer.Flag true
yes_view (answer.Flag true) h = refl
yes_view (answer.Flag false) h = absurd (let wrong : false ≡ true = h in cc)
yes_view answer.Done h = absurd (let wrong : false ≡ true = h in cc)
yes_view answer.Added h = absurd (let wrong : false ≡ true = h in cc)
yes_view answer.NotAdded h = absurd (let wrong : false ≡ true = h in cc)
yes_view (answer.Transmit given) h = absurd (let wrong : false ≡ true = h in cc)
yes_view (answer.Event given) h = absurd (let wrong : false ≡ true = h in cc)
yes_view (answer.Wake deadline) h = absurd (let wrong : false ≡ true = h in cc)
yes_view (answer.Unparsed fault) h = absurd (let wrong : false ≡ true = h in cc)
yes_view (answer.Refused error) h = absurd (let wrong : false ≡ true = h in cc)
yes_view answer.NotCalled h = absurd (let wrong : false ≡ true = h in cc)
yes_view answer.NotInWorld h = absurd (let wrong : false ≡ true = h in cc)
yes_view answer.NoSuchPacket h = absurd (let wrong : false ≡ true = h in cc)

moved_back : (o : Option (Class × TransId)) (c : Class) (id : List ℕ) → option_map moved_as o ≡ Some record { class = c; id = id } → o ≡ Some (c, record { 0 = id })
moved_back None c id h = absurd (let m : Moved = record { class = c; id = id } in let wrong : None ≡ Some m = h in cc)
moved_back (Some m) c id h =
    let n : Moved = record { class = c; id = id } in
    let e : moved_as m ≡ n = (let w : Some (moved_as m) ≡ Some n = h in cc) in
    ap (λ (y : Moved). let pair : Class × TransId = (y.class, record { 0 = y.id }) in Some pair) e

came_back : {P : Type 0} (path via : Path) (v : Event P) → via_in v ≡ Some via → (via.source ≡ path.destination) × (via.destination ≡ path.source) → ComesBack path v
came_back path via (world.Deliver place now w) came back =
    let same : w ≡ via = cc in
    let source : w.source ≡ path.destination = ap (λ (x : Path). x.source) same ∙ back.0 in
    let destination : w.destination ≡ path.source = ap (λ (x : Path). x.destination) same ∙ back.1 in
    (search source, search destination)
came_back path via (world.Call side c) came back = absurd (let wrong : None ≡ Some via = came in cc)
came_back path via (world.Poll side) came back = absurd (let wrong : None ≡ Some via = came in cc)
came_back path via (world.Stray side now w bytes) came back = absurd (let wrong : None ≡ Some via = came in cc)

-- an entry of the list, and its position in the log
record Entered {P : Type 0} (events : List (TwoAgentsEvent P)) (entries : List WorldEntry) (n : ℕ) (x : LoggedEvent P) : Type 0 where
  event : TwoAgentsEvent P
  entry : WorldEntry
  found : slice_get entries n ≡ Some entry
  is : x ≡ logged_as event entry

module _ {P : Type 0} where
  logged_at : (events : List (TwoAgentsEvent P)) (entries : List WorldEntry) → length entries ≡ length events → (n : ℕ) (e : WorldEntry) → slice_get entries n ≡ Some e
      → (v : TwoAgentsEvent P) × (slice_get (logged events entries) n ≡ Some (logged_as v e))
  logged_at events [] count n e h = absurd (let wrong : None ≡ Some e = h in cc)
  logged_at [] (f ∷ entries) count n e h = absurd (let none : ⊥ = omega (arith, count) in none)
  logged_at (v ∷ events) (f ∷ entries) count zero e h = (v, (let same : f ≡ e = cc in ap (λ x. Some (logged_as v x)) same))
  logged_at (v ∷ events) (f ∷ entries) count (suc n) e h = logged_at events entries (omega (arith, count)) n e h

  entered : (events : List (TwoAgentsEvent P)) (entries : List WorldEntry) (n : ℕ) (x : LoggedEvent P) → slice_get (logged events entries) n ≡ Some x → Entered events entries n x
  entered [] entries n x h = absurd (let wrong : None ≡ Some x = h in cc)
  entered (v ∷ events) [] n x h = absurd (let wrong : None ≡ Some x = h in cc)
  entered (v ∷ events) (e ∷ entries) zero x h = record { event = v; entry = e; found = refl; is = (let w : Some (logged_as v e) ≡ Some x = h in cc) }
  entered (v ∷ events) (e ∷ entries) (suc n) x h =
      let more = entered events entries n x h in record { event = more.event; entry = more.entry; found = more.found; is = more.is }

-- two checks with one id were sent on one path
path_same : (p q : Path) (id : List ℕ) → Some (issued_as p class.Request id) ≡ Some (issued_as q class.Request id) → p ≡ q
path_same p q id h = ap (λ o. option_map_or (λ (i : Issued). i.path) o p) h

entry_same : {X : Type 0} (xs : List X) (i j : ℕ) (x y : X) → slice_get xs i ≡ Some x → slice_get xs j ≡ Some y → i ≡ j → x ≡ y
entry_same xs i j x y at_i at_j same = cc

one_path : {P : Type 0} (log : List (LoggedEvent P)) → HaveDistinctIds log → (i j : ℕ) (id : List ℕ) (p q : Path) (x y : LoggedEvent P) → slice_get log i ≡ Some x → slice_get log j ≡ Some y
    → x.outcome.entry.emitted.issued ≡ Some (issued_as p class.Request id) → y.outcome.entry.emitted.issued ≡ Some (issued_as q class.Request id) → p ≡ q
one_path log distinct i j id p q x y at_i at_j issued_i issued_j =
    let same = entry_same log i j x y at_i at_j (distinct i j id p q x y at_i at_j issued_i issued_j) in
    path_same p q id (sym issued_i ∙ ap (λ (z : LoggedEvent _). z.outcome.entry.emitted.issued) same ∙ issued_j)

-- ---- an event of an execution

module _ {H P : Type 0} (mac : H → List ℕ → List ℕ → List ℕ) (answers : P → CandidateRecord → ℕ → ℕ → Type 0) where
  -- what an execution does at an event
  record Through (first : WorldRecord H P) (s : Streams) (n : ℕ) (before : List (LoggedEvent P)) (x : LoggedEvent P) (rest : List (LoggedEvent P)) (last : WorldRecord H P) (t : Streams) : Type 0 where
    mid : WorldRecord H P
    u : Streams
    after : WorldRecord H P
    v : Streams
    m : ℕ
    led : world.WorldRun mac answers first s n before mid u
    happens : world.Happens mac answers mid u x.event x.outcome after v
    leads : world.WorldRun mac answers after v m rest last t

  through : (before : List (LoggedEvent P)) (x : LoggedEvent P) (rest : List (LoggedEvent P)) (first last : WorldRecord H P) (s t : Streams) (n : ℕ) → world.WorldRun mac answers first s n (before ++ x ∷ rest) last t
      → Through first s n before x rest last t
  through [] x rest first last s t n (mid, u, number, happens, ran) = record { mid = first; u = s; after = mid; v = u; m = suc n; led = (refl, refl); happens = happens; leads = ran }
  through (y ∷ before) x rest first last s t n (mid, u, number, happens, ran) =
      let more = through before x rest mid last u t (suc n) ran in
      record { mid = more.mid; u = more.u; after = more.after; v = more.v; m = more.m; led = (mid, u, number, happens, more.led); happens = more.happens; leads = more.leads }

  module _ (paths : PathTheorem {H = H} {P = P} mac answers) (roles : RoleTheorem {H = H} {P = P} mac answers) (fresh_sound : FreshIsSound H P)
      (events : List (TwoAgentsEvent P)) (entries : List WorldEntry) (count : length entries ≡ length events)
      (first last : WorldRecord H P) (s t : Streams) (ran : world.WorldRun mac answers first s 0 (logged events entries) last t) (start : IsNewWorld first (logged events entries)) where
    abbrev Log : List (LoggedEvent P)
    Log = logged events entries

    -- the event with a number, as it is observed
    record At (n : ℕ) (x : LoggedEvent P) : Type 0 where
      cut : Cut Log n x
      mid : WorldRecord H P
      sees : Sight first Log cut.front mid x cut.rest

    at_number : (n : ℕ) (x : LoggedEvent P) → slice_get Log n ≡ Some x → At n x
    at_number n x found =
        let cut = cut_at Log n x found in
        let k = through cut.front x cut.rest first last s t 0 (subst (λ xs. world.WorldRun mac answers first s 0 xs last t) cut.whole ran) in
        let point : Point mac answers first s Log k.mid x cut.rest = record {
          before = cut.front;
          split = cut.whole;
          after = k.after;
          last = last;
          u = k.u;
          v = k.v;
          t = t;
          n = k.m;
          led = k.led;
          happens = k.happens;
          leads = k.leads;
        } in
        record {
          cut = cut;
          mid = k.mid;
          sees = sight mac answers paths roles fresh_sound first k.mid s Log cut.rest x (sound_first fresh_sound first Log start) point;
        }

    -- ---- entries up to a number

    module _ (n : ℕ) (x : LoggedEvent P) (here : At n x) where
      abbrev Es : List Emitted
      Es = emitted_of here.sees.before ++ here.sees.here.emitted ∷ []

      upto : Es ≡ map emitted_at (here.cut.front ++ x ∷ [])
      upto = ap (λ es. es ++ here.sees.here.emitted ∷ []) here.sees.emitted_before ∙ ap (λ e. map emitted_at here.cut.front ++ e ∷ []) here.sees.emitted_here ∙ sym (map-push emitted_at here.cut.front x)

      whole_is : Log ≡ (here.cut.front ++ x ∷ []) ++ here.cut.rest
      whole_is = here.cut.whole ∙ sym_assoc here.cut.front x here.cut.rest

      -- what is observed in the front is an entry of the log, at this number at the latest
      record Shows (m : ℕ) (e : Emitted) : Type 0 where
        event : TwoAgentsEvent P
        entry : WorldEntry
        found : slice_get entries m ≡ Some entry
        is : emitted_at (logged_as event entry) ≡ e
        within : m < suc n

      shows : (m : ℕ) (e : Emitted) → slice_get Es m ≡ Some e → Shows m e
      shows m e found =
          let k = get-map_back emitted_at (here.cut.front ++ x ∷ []) m e (subst (λ es. slice_get es m ≡ Some e) upto found) in
          let o = entered events entries m k.0 (subst (λ xs. slice_get xs m ≡ Some k.0) (sym whole_is) (get-append (here.cut.front ++ x ∷ []) here.cut.rest m k.0 k.1)) in
          let less = slice_get_within (here.cut.front ++ x ∷ []) m k.0 k.1 in
          let counted = length-push here.cut.front x in
          let at_n = here.cut.count in
          record { event = o.event; entry = o.entry; found = o.found; is = ap emitted_at (sym o.is) ∙ k.2; within = omega (arith, less, counted, at_n) }

      issues_at : (m : ℕ) (side : Side) (c : Class) (id : List ℕ) (path : Path) (role : Bool) → seen.Issues Es m side c id path role
          → IsAt entries m (Issues side path c (record { 0 = id })) × (m < suc n)
      issues_at m side c id path role i =
          let k = shows m i.entry i.found in (
            (
              k.entry,
              k.found,
              (ap (λ (e : Emitted). e.side) k.is ∙ i.side_is, issued_back k.entry.issued path c id (ap (λ (e : Emitted). e.issued) k.is ∙ i.issued)),
            ),
            k.within,
          )

      takes_at : (m : ℕ) (side : Side) (c : Class) (id : List ℕ) → seen.Takes Es m side c id → IsAt entries m (HandlesMessage side c (record { 0 = id })) × (m < suc n)
      takes_at m side c id i =
          let k = shows m i.entry i.found in (
            (
              k.entry,
              k.found,
              (
                ap (λ (e : Emitted). e.side) k.is ∙ i.side_is,
                yes_view k.entry.answer (ap (λ (e : Emitted). e.accepted) k.is ∙ i.accepted),
                moved_back k.entry.moved c id (ap (λ (e : Emitted). e.moved) k.is ∙ i.moved),
              ),
            ),
            k.within,
          )

      uncleared : (m : ℕ) (side : Side) → seen.NoClear Es m side → IsUncleared entries side m (suc n)
      uncleared m side none k e from to found side_is =
          let o = logged_at events entries count k e found in
          let y = logged_as o.0 e in
          let counted = length-push here.cut.front x in
          let at_n = here.cut.count in
          let in_front = get-front (here.cut.front ++ x ∷ []) here.cut.rest k y (subst (λ xs. slice_get xs k ≡ Some y) whole_is o.1) (omega (arith, to, counted, at_n)) in
          none k (emitted_at y) from (subst (λ es. slice_get es k ≡ Some (emitted_at y)) (sym upto) (get-map emitted_at (here.cut.front ++ x ∷ []) k y in_front)) side_is

      -- the causal chain, by the numbers of entries
      traced_by : (side : Side) (path : Path) (t : seen.Trace Es side path) → IsTrace entries side path (suc n) (record { checked = t.checked; delivered = t.delivered; replied = t.replied; answered = t.answered })
      traced_by side path t =
          let reply = issues_at t.replied (other side) class.Success t.id t.reply_path t.reply_role t.reply in
          let answer = takes_at t.answered side class.Success t.id t.answer in
          record {
            id = record { 0 = t.id };
            check = (issues_at t.checked side class.Request t.id path t.role t.check).0;
            answered = record {
              delivery = (takes_at t.delivered (other side) class.Request t.id t.delivery).0;
              reply = (reply.0.0, reply.0.1, (t.reply_path, reply.0.2));
              answer = answer.0;
              in_order = (t.in_order.0, search t.in_order.1, search t.in_order.2, answer.1);
            };
            uncleared = search (uncleared t.checked side t.no_clear);
          }

    -- ---- the theorem

    has_trace : (side : Side) → IsNeverLite side Log → (n place : ℕ) (path : Path) → IsAt entries n (SelectsPathAt side path place) → (t : Trace) × IsTrace entries side path (suc n) t
    has_trace side never n place path (e, found, (side_is, selected_paths)) =
        let o = logged_at events entries count n e found in
        let x = logged_as o.0 e in
        let here = at_number n x o.1 in
        let k = here.sees in
        let t = runs.traced (seen_of first) k.whole side (start_seen first Log (emitted_of k.whole) k.emitted start) (k.full side never)
        k.before (seen_of here.mid) k.here k.following k.point path
        (ap (λ (y : Emitted). y.side) k.emitted_here ∙ side_is) (subst (λ (y : Emitted). Has y.selected_paths path) (sym k.emitted_here) (paths_has e.announced place path selected_paths)) in
        (_, traced_by n x here side path t)

    comes_back : (side : Side) (n : ℕ) (path : Path) (t : Trace) → IsTrace entries side path (suc n) t → (x : LoggedEvent P) × (slice_get Log t.answered ≡ Some x) × ComesBack path x.event
    comes_back side n path t trace =
        let (e, found, (side_is, accepted, moved)) = trace.answered.answer in
        let o = logged_at events entries count t.answered e found in
        let x = logged_as o.0 e in
        let here = at_number t.answered x o.1 in
        let k = here.sees in
        let back = runs.answers_come_back (seen_of first) k.whole side (start_seen first Log (emitted_of k.whole) k.emitted start) k.before (seen_of here.mid) k.here k.following k.point trace.id.0
        (ap (λ (y : Emitted). y.side) k.emitted_here ∙ side_is)
        (ap (λ (y : Emitted). y.accepted) k.emitted_here ∙ ap (λ a. is_yes (answer_view a)) accepted)
        (ap (λ (y : Emitted). y.moved) k.emitted_here ∙ ap (option_map moved_as) moved) in
        let sent = get-map_back emitted_at here.cut.front back.number back.check.entry (subst (λ es. slice_get es back.number ≡ Some back.check.entry) k.emitted_before back.check.found) in
        let there : slice_get Log back.number ≡ Some sent.0 = subst (λ xs. slice_get xs back.number ≡ Some sent.0) (sym here.cut.whole) (get-append here.cut.front (x ∷ here.cut.rest) back.number sent.0 sent.1) in
        let issued = issued_back sent.0.outcome.entry.emitted.issued back.path class.Request trace.id.0 (ap (λ (y : Emitted). y.issued) sent.2 ∙ back.check.issued) in
        let (f, f_found, (f_side, f_issued)) = trace.check in
        let p = logged_at events entries count t.checked f f_found in
        let y = logged_as p.0 f in
        let same_path = one_path Log (search start.distinct) back.number t.checked trace.id.0 back.path path sent.0 y there p.1 issued f_issued in
        let came : via_in x.event ≡ Some back.via = ap (λ (z : Emitted). z.via) (sym k.emitted_here) ∙ back.came in
        (x, o.1, came_back path back.via x.event came (subst (λ (q : Path). (back.via.source ≡ q.destination) × (back.via.destination ≡ q.source)) same_path back.back))

    pub selected_are_traced : (side : Side) → IsNeverLite side Log → (n place : ℕ) (path : Path) → IsAt entries n (SelectsPathAt side path place)
        → ((t : Trace) × IsTrace entries side path (suc n) t)
        × ((t : Trace) → IsTrace entries side path (suc n) t → (x : LoggedEvent P) × (slice_get Log t.answered ≡ Some x) × ComesBack path x.event)
    selected_are_traced side never n place path at = (has_trace side never n place path at, comes_back side n path)

-- ---- whole logs

logged_none : {P : Type 0} (events : List (TwoAgentsEvent P)) → logged events [] ≡ []
logged_none [] = refl
logged_none (v ∷ events) = refl

module _ {H P : Type 0} (mac : H → List ℕ → List ℕ → List ℕ) (answers : P → CandidateRecord → ℕ → ℕ → Type 0) where
  ran_or_none : (first last : WorldRecord H P) (s t : Streams) (events : List (TwoAgentsEvent P)) (log : WorldLog) → IsWorldLog mac answers first s events log last t
      → (log.entries.items ≡ []) ⊎ ((length log.entries.items ≡ length events) × world.WorldRun mac answers first s 0 (logged events log.entries.items) last t)
  ran_or_none first last s t events log h =
      elim log.stopped as (λ b. MatchBool b ((log.entries.items ≡ []) × (last ≡ first) × (t ≡ s)) ((length log.entries.items ≡ length events) × world.WorldRun mac answers first s 0 (logged events log.entries.items) last t)
      → (log.entries.items ≡ []) ⊎ ((length log.entries.items ≡ length events) × world.WorldRun mac answers first s 0 (logged events log.entries.items) last t))
      [ true ↦ λ k. inl k.0 | false ↦ λ k. inr k ] h

  module _ (paths : PathTheorem {H = H} {P = P} mac answers) (roles : RoleTheorem {H = H} {P = P} mac answers) (fresh_sound : FreshIsSound H P) where
    pub log_keeps : (first last : WorldRecord H P) (s t : Streams) (events : List (TwoAgentsEvent P)) (log : WorldLog) → IsWorldLog mac answers first s events log last t
        → GreaterKeeps first (logged events log.entries.items)
    log_keeps first last s t events log h greater fair = elim (ran_or_none first last s t events log h) [
      | inl none ↦ subst (λ xs. AllByRecursion (λ x. role_in greater x ≡ (world.at greater first).controlling) xs) (sym (ap (logged events) none ∙ logged_none events)) tt
      | inr ran ↦ greater_keeps mac answers paths roles fresh_sound first last s t 0 (logged events log.entries.items) ran.1 greater fair
    ]

    pub log_switches : (first last : WorldRecord H P) (s t : Streams) (events : List (TwoAgentsEvent P)) (log : WorldLog) → IsWorldLog mac answers first s events log last t
        → LesserSwitchesOnce first (logged events log.entries.items)
    log_switches first last s t events log h greater fair = elim (ran_or_none first last s t events log h) [
      | inl none ↦ subst (λ xs. changes (world.at (other greater) first).controlling (map (role_in (other greater)) xs) ≤ 1) (sym (ap (logged events) none ∙ logged_none events)) (omega arith)
      | inr ran ↦ lesser_switches_once mac answers paths roles fresh_sound first last s t 0 (logged events log.entries.items) ran.1 greater fair
    ]

    pub log_traced : (first last : WorldRecord H P) (s t : Streams) (events : List (TwoAgentsEvent P)) (log : WorldLog) → IsWorldLog mac answers first s events log last t
        → SelectedAreTraced first (logged events log.entries.items) log.entries.items
    log_traced first last s t events log h side start never n place path at =
        let full : IsNeverLite side (logged events log.entries.items) = search never in
        elim (ran_or_none first last s t events log h) [
          | inl none ↦ absurd (empty_at log.entries.items none n at.0 at.1)
          | inr ran ↦ selected_are_traced mac answers paths roles fresh_sound events log.entries.items ran.0 first last s t ran.1 start side full n place path at
        ]
      where
        empty_at : (es : List WorldEntry) → es ≡ [] → (n : ℕ) (e : WorldEntry) → slice_get es n ≡ Some e → ⊥
        empty_at [] is n e found = (let wrong : None ≡ Some e = found in cc)
        empty_at (x ∷ es) is n e found = cc

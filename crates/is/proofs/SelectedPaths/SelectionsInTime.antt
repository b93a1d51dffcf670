-- A controlling side of two agents selects its first path in time, if its caller is punctual and a check is answered within a round trip.
-- What mutants/specifications changes is read by tactics.
use Rattle.is_rules.specs.Steps as agent
use Rattle.is_theorems.specs.SelectedInTime as law
use Rattle.is_theorems.specs.SelectedInTime.{ExecutionsSelectInTime, in_any_role}
use Rattle.is.specs.PunctualSelections.{IsAnsweredBy, rounds_in, SelectsBy, SelectionsComeInTime}
use Rattle.is.specs.World as world
use Rattle.is.proofs.Common.{[], ◌*◌, ◌++◌, ◌+◌, ◌∙◌, ◌∷◌, ◌≡◌, ◌≤◌, ◌⊎◌, AcceptsSuccess, AgentRecord, all_of, ap, append_assoc, AreBetween}
use Rattle.is.proofs.Common.{AreInRound, arith, at, Awaits, begins_modern, CandidateRecord, CarriedSucceedLater, ControlsAlong, EndsAlong}
use Rattle.is.proofs.Common.{EndsAmong, Entry, Execution, ExecutionRound, ExecutionRounds, fresh, FreshIsSound, Has, inl, inr}
use Rattle.is.proofs.Common.{IsOvertakenAmong, IsTimed, IsUnanswered, length, List, LoggedEvent, MayEndInRounds, Occurrence, OvertakeIn}
use Rattle.is.proofs.Common.{Path, path_of, PathTheorem, quiet, refl, RoundChecks, Side, SideRound, SideRoundsSuffice, source_of}
use Rattle.is.proofs.Common.{state_after, Streams, subst, SuccessesSelect, SufficeForDue, Suffices, sym, times_in, times_of, true}
use Rattle.is.proofs.Common.{WorldRecord, ℕ}
use Rattle.is.proofs.ExternalViews.ViewsOfExecutions.{Has-front, Has-rear, AreSound}
use Rattle.is.proofs.RolesAndChains.RolesAndChainsOfViews.{sound_new}
use Rattle.is.proofs.SelectedPaths.BothSelectInRounds.{round_of, rounds_of, as_many, Moves, moved, each_round, is_open, are_open}
use Rattle.is.proofs.SelectedPaths.BothSelectInRounds.{same_times, back, suffices_served}
use Rattle.is.proofs.SelectedPaths.ChecksInTime.{timed}
use Rattle.is.proofs.SelectedPaths.SelectedAfterNomination.{own_emitted}
use Rattle.is.proofs.SelectedPaths.SelectedInRounds.{returned}
use Rattle.is.proofs.TwoAgentEvents.DeliveredPackets.{handed_has}
use Rattle.is.proofs.TwoAgentEvents.EventsOfSegments.{middle, ends_at, Follow, follows, Found, cut, state_is, sound_along, acts_at, own}
use Rattle.is.proofs.TwoAgentEvents.EventsOfSegments.{own_execution, own_between, own_in_round, own_has}
use Rattle.is.proofs.TwoAgentEvents.OwnExecutions.{acts_steered, either_has}

module _ {H P : Type 0} (mac : H → List ℕ → List ℕ → List ℕ) (answers : P → CandidateRecord → ℕ → ℕ → Type 0) where
  -- ---- rounds after rounds

  all_on : (xs ys : List (SideRound H P)) → all_of (xs ++ ys) ≡ all_of xs ++ all_of ys
  all_on [] ys = refl
  all_on (r ∷ xs) ys = ap (λ zs. r.timeout ∷ (r.following ++ zs)) (all_on xs ys) ∙ ap (λ zs. r.timeout ∷ zs) (sym (append_assoc r.following (all_of xs) (all_of ys)))

  rounds_on : (side : Side) (xs ys : List (SideRound H P)) → rounds_of mac answers side (xs ++ ys) ≡ rounds_of mac answers side xs ++ rounds_of mac answers side ys
  rounds_on side [] ys = refl
  rounds_on side (r ∷ xs) ys = ap (λ zs. round_of mac answers side r ∷ zs) (rounds_on side xs ys)

  -- ---- a success response that is accepted in one of them

  accepts_by : (side : Side) (early others : List (SideRound H P)) (limit place now : ℕ) (via : Path) (x : Occurrence H P) (y : agent.Call P × Entry)
      → ((r : SideRound H P) → Has early r → Moves mac answers side r) → ((r : SideRound H P) → Has early r → r.now ≤ limit) → x.entry.event ≡ world.Deliver place now via
      → Has (all_of early) x → Has (acts_at mac answers side x) y → AcceptsSuccess y.0 y.1 → law.AcceptsBy limit (rounds_of mac answers side (early ++ others))
  accepts_by side [] others limit place now via x y moves times event has there accepts = absurd has
  accepts_by side (r ∷ early) others limit place now via x y moves times event (inl is) there accepts =
      absurd (let wrong : world.Call side (agent.HandleTimeout r.now) ≡ world.Deliver place now via = sym (moves r (inl refl)) ∙ (ap (λ (z : Occurrence H P). z.entry.event) is ∙ event) in cc)
  accepts_by side (r ∷ early) others limit place now via x y moves times event (inr has) there accepts = (
    times r (inl refl),
    elim (either_has r.following (all_of early) x has) [
      | inl here ↦ inl (y, own_has mac answers side r.following x y here there, accepts)
      | inr after ↦ inr (accepts_by side early others limit place now via x y (λ z h. moves z (inr h)) (λ z h. times z (inr h)) event after there accepts)
    ],
  )

  -- ---- what a round of the per-agent execution selects, one of the network model selects

  selects_by : (side : Side) (rounds : List (SideRound H P)) (w last : WorldRecord H P) (limit : ℕ) → Follow mac answers w (all_of rounds) last → law.SelectsBy limit (rounds_of mac answers side rounds)
      → SelectsBy side limit rounds
  selects_by side [] w last limit is (c, has, selects, in_time) = absurd has
  selects_by side (r ∷ later) w last limit (from, s, t, happens, more) (c, inl is, (y, there, success, emitted), in_time) =
      let k = cut mac answers r.following (all_of later) r.timeout.following last more in
      let m = own_emitted mac answers side r.following r.timeout.following k.0 k.1 y (subst (λ (z : ExecutionRound P). Has z.following y) (sym is) there) emitted in
      (r, inl refl, m, subst (λ (z : ExecutionRound P). z.now ≤ limit) (sym is) in_time)
  selects_by side (r ∷ later) w last limit (from, s, t, happens, more) (c, inr has, selects, in_time) =
      let k = cut mac answers r.following (all_of later) r.timeout.following last more in
      let m = selects_by side later k.0 last limit k.2 (c, has, selects, in_time) in
      (m.0, inr m.1, m.2, m.3)

  -- ---- what a side does in the controlling role, and what may remove a pair of the path meanwhile

  module _ (side : Side) (path : Path) where
    abbrev Guided : (whole : List (Occurrence H P)) → List (agent.Call P × Entry) → AgentRecord H P → AgentRecord H P → Type 0
    Guided whole xs a b = (execution : Execution mac answers xs a b) × ControlsAlong mac answers xs a b execution × (EndsAlong mac answers xs a b execution path → Found mac answers side path whole)

    guided_on : (whole : List (Occurrence H P)) (xs ys : List (agent.Call P × Entry)) (a b c : AgentRecord H P) → Guided whole xs a b → Guided whole ys b c → Guided whole (xs ++ ys) a c
    guided_on whole [] ys a b c (is, along, ends) more = subst (λ (z : AgentRecord H P). Guided whole ys z c) is more
    guided_on whole (x ∷ xs) ys a b c ((mid, s, t, based, step, on), (role, along), ends) more =
        let k = guided_on whole xs ys mid b c (on, along, λ e. ends (inr e)) more in
        ((mid, s, t, based, step, k.0), (role, k.1), λ e. elim e [ inl here ↦ ends (inl here) | inr later ↦ k.2 later ])

    guided : (whole xs : List (Occurrence H P)) (w last : WorldRecord H P) → Follow mac answers w xs last → ((x : Occurrence H P) → Has xs x → Has whole x)
        → ((x : Occurrence H P) → Has xs x → (at side x.following).controlling ≡ true) → Guided whole (own mac answers side xs) (at side w) (at side last)
    guided whole [] w last is among roles = (ap (λ (v : WorldRecord H P). at side v) is, tt, λ none. absurd none)
    guided whole (x ∷ rest) w last (from, s, t, happens, more) among roles =
        let a = acts_steered mac answers x.before x.following s t side x.entry happens (roles x (inl refl)) in
        subst (λ (v : WorldRecord H P). Guided whole (own mac answers side (x ∷ rest)) (at side v) (at side last)) from
        (guided_on whole (acts_at mac answers side x) (own mac answers side rest) (at side x.before) (at side x.following) (at side last)
        (a.0, a.1, λ e. (x, among x (inl refl), ends_at mac answers side path whole x.before x.entry.event x.entry.outcome.entry (at side x.following) a.0 e))
        (guided whole rest x.following last more (λ y has. among y (inr has)) (λ y has. roles y (inr has))))

    abbrev GuidedRounds : List (SideRound H P) → AgentRecord H P → AgentRecord H P → Type 0
    GuidedRounds rounds a b =
        (run : ExecutionRounds mac answers (rounds_of mac answers side rounds) a b)
        × (EndsAmong mac answers (rounds_of mac answers side rounds) a b (in_any_role mac answers (rounds_of mac answers side rounds) a b run) path → MayEndInRounds answers side path rounds)
        × ((n k : ℕ) → IsOvertakenAmong mac answers n k (rounds_of mac answers side rounds) a b (in_any_role mac answers (rounds_of mac answers side rounds) a b run) → OvertakeIn side n k rounds)

    guided_rounds : (rounds : List (SideRound H P)) (w last : WorldRecord H P) → Follow mac answers w (all_of rounds) last → ((r : SideRound H P) → Has rounds r → Moves mac answers side r)
        → ((x : Occurrence H P) → Has (all_of rounds) x → (at side x.following).controlling ≡ true) → GuidedRounds rounds (at side w) (at side last)
    guided_rounds [] w last is moves roles = (ap (λ (v : WorldRecord H P). at side v) is, (λ none. absurd none), λ n k none. none)
    guided_rounds (r ∷ later) w last (from, s, t, happens, more) moves roles =
        let c = cut mac answers r.following (all_of later) r.timeout.following last more in
        let k = guided r.following r.following r.timeout.following c.0 c.1 (λ x has. has) (λ x has. roles x (inr (Has-front r.following (all_of later) x has))) in
        let g = guided_rounds later c.0 last c.2 (λ y has. moves y (inr has)) (λ x has. roles x (inr (Has-rear r.following (all_of later) x has))) in
        let m = moved mac answers side r s t (moves r (inl refl)) happens in
        subst (λ (v : WorldRecord H P). GuidedRounds (r ∷ later) (at side v) (at side last)) from (
          (at side r.timeout.following, at side c.0, source_of side s, m.0, m.1, roles r.timeout (inl refl), k.0, k.1, g.0),
          (λ ends. elim ends [ inl here ↦ (r, inl refl, k.2 here) | inr others ↦ (let z = g.1 others in (z.0, inr z.1, z.2)) ]),
          λ n i overtaken. elim overtaken [ inl others ↦ inl (g.2 n i others) | inr (j, is, here, others) ↦ inr (j, is, search (here), g.2 n j others) ],
        )

  -- ---- the rounds of a segment

  pub selections_in_time : PathTheorem {H = H} {P = P} mac answers → FreshIsSound H P → CarriedSucceedLater {H = H} {P = P} mac answers → SuccessesSelect {H = H} {P = P} mac answers
      → ExecutionsSelectInTime {H = H} {P = P} mac answers → (first : WorldRecord H P) (s : Streams) (log : List (LoggedEvent P)) → SelectionsComeInTime mac answers first s log
  selections_in_time paths new_sound succeeds selects reach first s log last t run side pace delay trip k answered = by front.1 where
    rounds : List (SideRound H P)
    rounds = rounds_in k

    enough_rounds : List (SideRound H P)
    enough_rounds = k.first ∷ k.later

    start : WorldRecord H P
    start = k.first.timeout.before

    path : Path
    path = path_of (at side start) k.pair

    led : (mid : WorldRecord H P) × Follow mac answers first k.before mid × Follow mac answers mid (all_of rounds ++ k.rest) last
    led = cut mac answers k.before (all_of rounds ++ k.rest) first last (subst (λ xs. Follow mac answers first xs last) k.split (follows mac answers first last s t 0 log run))

    to : Follow mac answers first k.before start
    to = subst (λ (w : WorldRecord H P). Follow mac answers first k.before w) (sym led.2.0) led.1

    on : (mid : WorldRecord H P) × Follow mac answers start (all_of rounds) mid × Follow mac answers mid k.rest last
    on = cut mac answers (all_of rounds) k.rest start last (subst (λ (w : WorldRecord H P). Follow mac answers w (all_of rounds ++ k.rest) last) (sym led.2.0) led.2)

    front : (mid : WorldRecord H P) × Follow mac answers start (all_of enough_rounds) mid × Follow mac answers mid (all_of k.more) on.0
    front = cut mac answers (all_of enough_rounds) (all_of k.more) start on.0 (subst (λ xs. Follow mac answers start xs on.0) (all_on enough_rounds k.more) on.1)

    sound : AreSound start
    sound = sound_along mac answers paths k.before first start to (λ z. sound_new new_sound (at z first) (k.new z))

    role : (at side start).controlling ≡ true
    role = search k.role

    waits : Awaits k.first.now k.by (at side start) k.pair
    waits = search k.waits

    unanswered : IsUnanswered (at side start) k.pair
    unanswered = search k.unanswered

    on_time : IsTimed side pace delay k.first k.later
    on_time = search k.timed

    steady : (x : Occurrence H P) → Has (all_of rounds) x → (at side x.following).controlling ≡ true
    steady x has = search (k.controlling x has)

    steady_first : (x : Occurrence H P) → Has (all_of enough_rounds) x → (at side x.following).controlling ≡ true
    steady_first x has = steady x (subst (λ xs. Has xs x) (sym (all_on enough_rounds k.more)) (Has-front (all_of enough_rounds) (all_of k.more) x has))

    steady_more : (x : Occurrence H P) → Has (all_of k.more) x → (at side x.following).controlling ≡ true
    steady_more x has = steady x (subst (λ xs. Has xs x) (sym (all_on enough_rounds k.more)) (Has-rear (all_of enough_rounds) (all_of k.more) x has))

    moves : (r : SideRound H P) → Has rounds r → Moves mac answers side r
    moves r (inl is) = subst (λ (z : SideRound H P). Moves mac answers side z) is (k.kept.kept k.first (inl refl)).comes
    moves r (inr has) = elim (either_has k.later k.more r has) [ inl one ↦ (k.kept.kept r (inr one)).comes | inr one ↦ search (k.calls r one) ]

    -- a check of one of them is answered in time
    accepted : (z : SideRound H P) → Has rounds z → RoundChecks path z → law.AcceptsBy (z.now + trip) (rounds_of mac answers side rounds)
    accepted z has checks = by_answer (search (answered z has checks)) where
      by_answer : IsAnsweredBy mac answers side path (z.now + trip) rounds → law.AcceptsBy (z.now + trip) (rounds_of mac answers side rounds)
      by_answer a =
          let f = cut mac answers (all_of a.early) (all_of a.others) start on.0 (subst (λ xs. Follow mac answers start xs on.0) (ap (λ xs. all_of xs) a.split ∙ all_on a.early a.others) on.1) in
          let inside : (r : SideRound H P) → Has a.early r → Has rounds r = λ r there. subst (λ xs. Has xs r) (sym a.split) (Has-front a.early a.others r there) in
          let among : (x : Occurrence H P) → Has (all_of a.early) x → Has (all_of rounds) x =
          λ x there. subst (λ xs. Has xs x) (sym (ap (λ xs. all_of xs) a.split ∙ all_on a.early a.others)) (Has-front (all_of a.early) (all_of a.others) x there) in
          let w = returned mac answers side paths succeeds selects first start f.0 s k.before (all_of a.early) (k.new side) sound to f.1 role
          (λ x there. steady x (among x there)) unanswered.invalid path a.answered (search a.role) in
          subst (λ xs. law.AcceptsBy (z.now + trip) (rounds_of mac answers side xs)) (sym a.split)
          (accepts_by side a.early a.others (z.now + trip) w.6.place w.6.now w.4 w.2 (agent.ReceivePacket w.6.now w.4 w.3.contents, w.2.entry.outcome.entry) (λ r there. moves r (inside r there))
          (λ r there. search (a.in_time r there)) w.6.event (subst (λ xs. Has xs w.2) (sym w.5) (middle w.0 w.1 w.2)) (handed_has mac answers side w.4 w.3 w.2.before w.2.entry w.6)
          (w.6.now, w.4, w.7.0, w.7.1, w.7.2))

    suffice : (c : WorldRecord H P) → state_after k.first.timeout.following k.first.following ≡ c → (l : GuidedRounds side path k.later (at side c) (at side front.0))
        → law.SufficeForCheck mac answers k.by k.pair (at side start) (at side c) (at side front.0) (round_of mac answers side k.first) (rounds_of mac answers side k.later)
        (in_any_role mac answers (rounds_of mac answers side k.later) (at side c) (at side front.0) l.0)
    suffice c second l = elim k.enough [
      | inl each ↦
          (let few : SufficeForDue k.by k.first.now (at side start) (at side c) (times_of (rounds_of mac answers side k.later)) =
          subst (λ ns. SufficeForDue k.by k.first.now (at side start) (at side c) ns) (sym (same_times mac answers side k.later))
          (subst (λ (w : WorldRecord H P). SufficeForDue k.by k.first.now (at side start) (at side w) (times_in k.later)) second (search each.few)) in
          inl (each_round mac answers (λ c. AreBetween c.following) side enough_rounds (λ x has. own_between mac answers side x.following (λ y there. search (each.polls x has y there))), few))
      | inr (inl many) ↦
          inr (inl (subst (λ i. Suffices k.by k.first.now (at side start) (at side c) (at side front.0) i 0 0) (sym (as_many mac answers side k.later))
          (subst (λ (w : WorldRecord H P). Suffices k.by k.first.now (at side start) (at side w) (at side front.0) (length k.later) 0 0) second
          (search (subst (λ (w : WorldRecord H P). SideRoundsSuffice side k.by k.first k.later w) (state_is mac answers (all_of enough_rounds) start front.0 front.1) many)))))
      | inr (inr served) ↦ inr (inr (suffices_served mac answers side k.pair k.first k.later (at side c) (at side front.0) (in_any_role mac answers (rounds_of mac answers side k.later) (at side c) (at side front.0) l.0) (λ n m overtaken. l.2 n m overtaken) (search served)))
    ]

    bounded : law.SelectsBy (k.first.now + length (rounds_of mac answers side k.later) * (pace + delay) + trip) (round_of mac answers side k.first ∷ (rounds_of mac answers side k.later ++ rounds_of mac answers side k.more))
        → SelectsBy side (k.first.now + length k.later * (pace + delay) + trip) (rounds_in k)
    bounded found =
        let f = selects_by side rounds start on.0 (k.first.now + length k.later * (pace + delay) + trip) on.1
        (subst (λ i. law.SelectsBy (k.first.now + i * (pace + delay) + trip) (rounds_of mac answers side rounds)) (as_many mac answers side k.later)
        (subst (λ xs. law.SelectsBy (k.first.now + length (rounds_of mac answers side k.later) * (pace + delay) + trip) (round_of mac answers side k.first ∷ xs)) (sym (rounds_on side k.later k.more)) found)) in
        let soon = f.3 in
        (f.0, f.1, f.2, omega (arith, soon))

    by : Follow mac answers start (all_of enough_rounds) front.0
        → SelectsBy side (k.first.now + length k.later * (pace + delay) + trip) (rounds_in k) ⊎ MayEndInRounds answers side (path_of (at side k.first.timeout.before) k.pair) (k.first ∷ k.later)
    by (same, u, v, happens, more) =
        let n = k.new side in
        let own_first = k.kept.kept k.first (inl refl) in
        let c = cut mac answers k.first.following (all_of k.later) k.first.timeout.following front.0 more in
        let g = guided side path k.first.following k.first.following k.first.timeout.following c.0 c.1 (λ x has. has) (λ x has. steady_first x (inr (Has-front k.first.following (all_of k.later) x has))) in
        let l = guided_rounds side path k.later c.0 front.0 c.2 (λ r has. moves r (inr (Has-front k.later k.more r has))) (λ x has. steady_first x (inr (Has-rear k.first.following (all_of k.later) x has))) in
        let o = guided_rounds side path k.more front.0 on.0 front.2 (λ r has. moves r (inr (Has-rear k.later k.more r has))) (λ x has. steady_more x has) in
        let m = moved mac answers side k.first u v own_first.comes happens in
        elim (reach (fresh (at side first).provider n.0 n.1) (at side start) (at side front.0) (at side on.0) ((agent.SetControlling n.2, quiet agent.Done) ∷ own mac answers side k.before) (round_of mac answers side k.first)
        (rounds_of mac answers side k.later) (rounds_of mac answers side k.more) k.pair k.by pace delay trip (n.0, n.1, refl)
        (at side first, source_of side s, source_of side s, tt, (refl, n.3, refl), own_execution mac answers side k.before first start to)
        role waits unanswered (let from = k.kept.from in omega (arith, from)) own_first.done own_first.early (is_open mac answers (begins_modern side k.first) side k.first own_first)
        (at side k.first.timeout.following, at side c.0, source_of side u, m.0, m.1, steady_first k.first.timeout (inl refl), g.0, g.1, l.0) o.0
        (are_open mac answers side k.by k.first k.later k.kept)
        (each_round mac answers (λ c. AreInRound (begins_modern side k.first) c.following) side k.more (λ x has. own_in_round mac answers (begins_modern side k.first) side x.following (λ y there. search (k.between x has y there))))
        (suffice c.0 (state_is mac answers k.first.following k.first.timeout.following c.0 c.1) l) (timed mac answers side pace delay k.first k.later on_time)
        (subst (λ xs. law.IsAnsweredWithin trip (round_of mac answers side k.first ∷ xs) path) (rounds_on side k.later k.more) (λ q has sent. (
        let x = back mac answers side rounds q has in
        subst (λ (y : ExecutionRound P). law.AcceptsBy (y.now + trip) (rounds_of mac answers side rounds)) x.2
        (accepted x.0 x.1 (sent.0, ap (λ (y : ExecutionRound P). y.timeout.emitted.issued) x.2 ∙ sent.1)))))) [
          | inl found ↦ inl (bounded found)
          | inr (inl here) ↦ (let ends : MayEndInRounds answers side path (k.first ∷ k.later) = (k.first, inl refl, g.2 here) in inr (search ends))
          | inr (inr others) ↦ (let z = l.1 others in let ends : MayEndInRounds answers side path (k.first ∷ k.later) = (z.0, inr z.1, z.2) in inr (search ends))
        ]

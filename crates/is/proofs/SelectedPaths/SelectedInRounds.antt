-- In rounds that suffice for one of its pairs, a controlling side sends a check on the pair's path, or selects a path, unless a
-- candidate that it adds may remove the pair. If a check is answered while it is pending, it selects one. The preconditions that mutants/specifications changes are read by tactics where they are used:
-- if one of them is weaker, that goal stays unproved.
use Rattle.is_rules.specs.Steps as agent
use Rattle.is.specs.World as world
use Rattle.is.proofs.Common.{[], ◌++◌, ◌∙◌, ◌∷◌, ◌≡◌, ◌⊎◌, all_of, ap, append_assoc, AreEachPolled, AreKept, arith, at, Awaits}
use Rattle.is.proofs.Common.{begins_modern, Bool, CandidateRecord, CarriedSucceedLater, DeliveredRoundsSelect, Done, EndsAlong, Entry}
use Rattle.is.proofs.Common.{Event, ExecutionRound, ExecutionRounds, ExecutionsCheckFromDue, ExecutionsReachServed}
use Rattle.is.proofs.Common.{ExecutionsReachUnanswered, false, fresh, FreshIsSound, HandedCheck, Hands, Happens, Has, inl, inr, is_some}
use Rattle.is.proofs.Common.{is_valid, IsAnsweredAlong, IsAnsweredInTime, IsControlling, IsKept, IsNewlyCreated, IsReturned}
use Rattle.is.proofs.Common.{IsReturnedInTime, IsTaken, IsUnanswered, IsValidBy, last_of, List, LoggedEvent, MayEndAt, not, Occurrence}
use Rattle.is.proofs.Common.{other, Packet, PairRecord, Path, path_of, PathTheorem, quiet, refl, SelectsAmong, SelectsPath, Side, SideRound}
use Rattle.is.proofs.Common.{SideRoundsSuffice, source_of, state_after, Streams, subst, Succeeds, Success, SuccessesSelect, SufficeForDue}
use Rattle.is.proofs.Common.{sym, TakesTurn, times_in, times_of, true, via_out, WorldRecord, ℕ}
use Rattle.is.proofs.ExternalViews.ViewsOfExecutions.{Has-front, Has-rear, AreSound}
use Rattle.is.proofs.RolesAndChains.RolesAndChainsOfViews.{sound_new}
use Rattle.is.proofs.TwoAgentEvents.OwnExecutions.{either_has, turn_step, Steered, steered_on, acts_steered}
use Rattle.is.proofs.TwoAgentEvents.DeliveredPackets.{rewritten, handed}
use Rattle.is.proofs.TwoAgentEvents.EventsOfSegments.{middle, Follow, follows, following_in, cut, state_is, meet, sound_along, acts_at, own}
use Rattle.is.proofs.TwoAgentEvents.EventsOfSegments.{own_execution, checked, Awaited, awaits, removed}
use Rattle.is.proofs.TwoAgentEvents.ExchangedChecks.{sent-check, carried-check, carried-back}
use Rattle.is.proofs.SelectedPaths.SelectedAfterNomination.{own_emitted}
use Rattle.is.proofs.SelectedPaths.BothSelectInRounds.{round_of, rounds_of, Moves, moved, are_passed, only_polls, same_times, back}
use Rattle.is.proofs.SelectedPaths.BothSelectInRounds.{SomeChecks, reached_unanswered, in_rounds, succeeds_in}

module _ {H P : Type 0} (mac : H → List ℕ → List ℕ → List ℕ) (answers : P → CandidateRecord → ℕ → ℕ → Type 0) where
  module _ (side : Side) where
    -- ---- roles

    -- the side is controlling, and the other side is controlled
    abbrev pub Leads : WorldRecord H P → Type 0
    Leads w = ((at side w).controlling ≡ true) × ((at (other side) w).controlling ≡ false)

    pub leads_at : (all : List (Occurrence H P)) (x : Occurrence H P) → IsControlling side all → Has all x → Leads x.following
    leads_at all x roles has = search (roles x has)

    -- a role after each entry, and so at the end
    role_along : (z : Side) (role : Bool) (xs : List (Occurrence H P)) (w last : WorldRecord H P) → Follow mac answers w xs last → ((x : Occurrence H P) → Has xs x → (at z x.following).controlling ≡ role)
        → (at z w).controlling ≡ role → (at z last).controlling ≡ role
    role_along z role [] w last is roles begin = ap (λ (v : WorldRecord H P). (at z v).controlling) is ∙ begin
    role_along z role (x ∷ rest) w last (from, s, t, happens, more) roles begin = role_along z role rest x.following last more (λ y has. roles y (inr has)) (roles x (inl refl))

    -- ---- rounds of a controlling side

    pub steered : (xs : List (Occurrence H P)) (w last : WorldRecord H P) → Follow mac answers w xs last → ((x : Occurrence H P) → Has xs x → (at side x.following).controlling ≡ true)
        → Steered mac answers (own mac answers side xs) (at side w) (at side last)
    steered [] w last is roles = (ap (λ (v : WorldRecord H P). at side v) is, tt)
    steered (x ∷ rest) w last (from, s, t, happens, more) roles =
        subst (λ (v : WorldRecord H P). Steered mac answers (own mac answers side (x ∷ rest)) (at side v) (at side last)) from
        (steered_on mac answers (acts_at mac answers side x) (own mac answers side rest) (at side x.before) (at side x.following) (at side last)
        (acts_steered mac answers x.before x.following s t side x.entry happens (roles x (inl refl))) (steered rest x.following last more (λ y has. roles y (inr has))))

    pub executions : (rounds : List (SideRound H P)) (w last : WorldRecord H P) → Follow mac answers w (all_of rounds) last → ((r : SideRound H P) → Has rounds r → Moves mac answers side r)
        → ((x : Occurrence H P) → Has (all_of rounds) x → (at side x.following).controlling ≡ true) → ExecutionRounds mac answers (rounds_of mac answers side rounds) (at side w) (at side last)
    executions [] w last is comes roles = ap (λ (v : WorldRecord H P). at side v) is
    executions (r ∷ later) w last (from, s, t, happens, more) comes roles =
        let c = cut mac answers r.following (all_of later) r.timeout.following last more in
        let k = steered r.following r.timeout.following c.0 c.1 (λ x has. roles x (inr (Has-front r.following (all_of later) x has))) in
        let moves = moved mac answers side r s t (comes r (inl refl)) happens in
        subst (λ (v : WorldRecord H P). ExecutionRounds mac answers (rounds_of mac answers side (r ∷ later)) (at side v) (at side last)) from (
          at side r.timeout.following,
          at side c.0,
          source_of side s,
          moves.0,
          moves.1,
          roles r.timeout (inl refl),
          k.0,
          k.1,
          executions later c.0 last c.2 (λ y has. comes y (inr has)) (λ x has. roles x (inr (Has-rear r.following (all_of later) x has))),
        )

    -- what a round of the per-agent execution selects, one of the network model selects
    selected_in : (rounds : List (SideRound H P)) (w last : WorldRecord H P) → Follow mac answers w (all_of rounds) last → SelectsAmong (rounds_of mac answers side rounds)
        → (x : Occurrence H P) × Has (all_of rounds) x × SelectsPath side x.entry
    selected_in [] w last is (c, has, rest) = absurd has
    selected_in (r ∷ later) w last (from, s, t, happens, more) (c, inl is, (y, there, success, emitted)) =
        let k = cut mac answers r.following (all_of later) r.timeout.following last more in
        let m = own_emitted mac answers side r.following r.timeout.following k.0 k.1 y (subst (λ (z : ExecutionRound P). Has z.following y) (sym is) there) emitted in
        (m.0, inr (Has-front r.following (all_of later) m.0 m.1), m.2)
    selected_in (r ∷ later) w last (from, s, t, happens, more) (c, inr has, rest) =
        let k = cut mac answers r.following (all_of later) r.timeout.following last more in
        let m = selected_in later k.0 last k.2 (c, has, rest) in
        (m.0, inr (Has-rear r.following (all_of later) m.0 m.1), m.2)

    -- ---- a success response of the path

    parted : (xs : List (Occurrence H P)) (x : Occurrence H P) → Has xs x → (ahead rest : List (Occurrence H P)) × (xs ≡ ahead ++ x ∷ rest)
    parted [] x has = absurd has
    parted (y ∷ xs) x (inl is) = ([], xs, ap (λ z. z ∷ xs) is)
    parted (y ∷ xs) x (inr has) = let k = parted xs x has in (y ∷ k.0, k.1, ap (λ zs. y ∷ zs) k.2)

    succeeded : (x : Occurrence H P) (s t : Streams) (path : Path) → (z : Succeeds side path x) → Happens mac answers x.before s x.entry.event x.entry.outcome x.following t
        → TakesTurn mac answers x.before s side (agent.ReceivePacket z.now z.via z.in_flight.packet.contents) x.entry.outcome x.following t
    succeeded x s t path z happens =
        subst (λ y. TakesTurn mac answers x.before s y (agent.ReceivePacket z.now z.via z.in_flight.packet.contents) x.entry.outcome x.following t) z.its
        (subst (λ o. world.Delivers mac answers x.before s o z.now z.via x.entry.outcome x.following t) z.sent
        (subst (λ (v : Event P). Happens mac answers x.before s v x.entry.outcome x.following t) z.event happens))

    -- ---- a check that is answered

    module _ (paths : PathTheorem {H = H} {P = P} mac answers) (succeeds : CarriedSucceedLater {H = H} {P = P} mac answers) (selects : SuccessesSelect {H = H} {P = P} mac answers) where
      module _ (first start last : WorldRecord H P) (s : Streams) (before part : List (Occurrence H P)) (new : IsNewlyCreated (at side first)) (sound : AreSound start)
          (led : Follow mac answers first before start) (follow : Follow mac answers start part last) (role : (at side start).controlling ≡ true)
          (roles : (x : Occurrence H P) → Has part x → (at side x.following).controlling ≡ true) (invalid : (p : PairRecord) → Has (at side start).pairs p → is_valid p ≡ false) where
        -- what the success response selects
        selected : (ahead rest : List (Occurrence H P)) (again : Occurrence H P) (reply : Packet) (via : Path) (now : ℕ) (u v : Streams) → part ≡ ahead ++ again ∷ rest → Follow mac answers start ahead again.before
            → TakesTurn mac answers again.before u side (agent.ReceivePacket now via reply.contents) again.entry.outcome again.following v
            → IsTaken mac answers (rewritten via reply) now again.entry.outcome.entry Success → (x : Occurrence H P) × Has part x × SelectsPath side x.entry
        selected ahead rest again reply via now u v split on turn (m, brings, success) =
            let call : agent.Call P = agent.ReceivePacket now via reply.contents in
            let n = new in
            let said = selects (fresh (at side first).provider n.0 n.1) (at side start) (at side again.before) (at side again.following)
            ((agent.SetControlling n.2, quiet Done) ∷ own mac answers side before) (own mac answers side ahead) (source_of side u) turn.left now via reply.contents again.entry.outcome.entry m (n.0, n.1, refl)
            (at side first, source_of side s, source_of side s, tt, (refl, n.3, refl), own_execution mac answers side before first start led) invalid (own_execution mac answers side ahead start again.before on)
            (turn_step mac answers again.before again.following u v side call again.entry.outcome turn) brings success (roles again (subst (λ xs. Has xs again) (sym split) (middle ahead rest again))) in
            let y = said.0 in
            elim (either_has (own mac answers side ahead) ((call, again.entry.outcome.entry) ∷ []) y.0 y.1) [
              | inl h ↦
                  (let x = own_emitted mac answers side ahead start again.before on y.0 h y.2 in
                  (x.0, subst (λ xs. Has xs x.0) (sym split) (Has-front ahead (again ∷ rest) x.0 x.1), x.2))
              | inr (inl is) ↦
                  (again, subst (λ xs. Has xs again) (sym split) (middle ahead rest again), (turn.side_is, ap (λ (z : agent.Call P × Entry). is_some (last_of z.1.emitted.selected_paths)) is ∙ y.2))
              | inr (inr none) ↦ absurd none
            ]

        -- a success response of the path that is accepted in the segment selects
        accepted : (path : Path) (x : Occurrence H P) → Has part x → Succeeds side path x → (y : Occurrence H P) × Has part y × SelectsPath side y.entry
        accepted path x has z =
            let sp = parted part x has in
            let m = meet mac answers sp.0 sp.1 x start last (subst (λ xs. Follow mac answers start xs last) sp.2 follow) in
            selected sp.0 sp.1 x z.in_flight.packet z.via z.now m.s m.t sp.2 m.led (succeeded x m.s m.t path z m.happens)
            (z.accepts.2, (refl, refl, z.accepts.3.2, z.accepts.3.3), z.accepts.4)

        -- the success response to a check that is answered in the segment, if the other side is controlled once it received the check
        pub returned : (path : Path) → (given : IsAnsweredInTime mac answers side path part) → (at (other side) given.1.comes.handed.following).controlling ≡ false
            → (ahead rest : List (Occurrence H P)) × (again : Occurrence H P) × (reply : Packet) × (via : Path) × (part ≡ ahead ++ again ∷ rest)
            × (h : Hands side via reply again.before again.entry) × IsTaken mac answers (rewritten via reply) h.now again.entry.outcome.entry Success
        returned path (over, k, returns) controlled =
            let c = checked mac answers paths side path over part start last k sound follow in
            let handing = k.comes.handed in
            let one = meet mac answers k.before k.following k.sent start last (subst (λ xs. Follow mac answers start xs last) k.split follow) in
            let steers = role_along side true k.before start k.sent.before one.led (λ x has. roles x (subst (λ xs. Has xs x) (sym k.split) (Has-front k.before (k.sent ∷ k.following) x has))) role in
            let there = succeeds (sent-check mac answers side path over part last k c) (carried-check mac answers side path over part last k c) (inr (controlled ∙ sym (ap not steers))) in
            let reply : Packet = there.0.reply in
            let in_time : IsReturnedInTime mac answers side path over part k reply = search (returns reply there.0.sends) in
            let r = in_time.returned in
            let between : List (Occurrence H P) = k.comes.between ++ handing ∷ r.comes.between in
            let z = awaits mac answers side path between over part last k reply r c.onward (λ x has. has) in
            by k reply r (λ x has ends. search (in_time.stays x has ends)) z (there.1 (carried-back mac answers side path over part last k c between reply r z)) where
              by : (k : HandedCheck mac side path over part) (reply : Packet) (r : IsReturned mac side path over part k reply)
                  → ((x : Occurrence H P) → Has (k.comes.between ++ k.comes.handed ∷ r.comes.between) x → MayEndAt answers side path x → ⊥)
                  → (z : Awaited mac answers side path (k.comes.between ++ k.comes.handed ∷ r.comes.between) over part last k reply r)
                  → (IsTaken mac answers (rewritten r.via reply) r.comes.hands.now r.comes.handed.entry.outcome.entry Success × IsValidBy mac answers (at side r.comes.handed.following) r.via)
                  ⊎ EndsAlong mac answers (own mac answers side (k.comes.between ++ k.comes.handed ∷ r.comes.between)) (at side k.sent.following) (at side r.comes.handed.before) z.execution.0 (via_out k.check)
                  → (ahead rest : List (Occurrence H P)) × (again : Occurrence H P) × (reply : Packet) × (via : Path) × (part ≡ ahead ++ again ∷ rest)
                  × (h : Hands side via reply again.before again.entry) × IsTaken mac answers (rewritten via reply) h.now again.entry.outcome.entry Success
              by k reply r stays z (inr ends) =
                  let f = removed mac answers side path (k.comes.between ++ k.comes.handed ∷ r.comes.between) over part last k reply r z ends in absurd (stays f.0 f.1 f.2)
              by k reply r stays z (inl (taken, valid)) =
                  let again = r.comes.handed in
                  let between : List (Occurrence H P) = k.comes.between ++ k.comes.handed ∷ r.comes.between in
                  let split : part ≡ (k.before ++ k.sent ∷ between) ++ again ∷ r.comes.rest =
                  k.split ∙ (ap (λ xs. k.before ++ k.sent ∷ xs) (k.comes.split ∙ (ap (λ xs. k.comes.between ++ k.comes.handed ∷ xs) r.comes.split
                  ∙ sym (append_assoc k.comes.between (k.comes.handed ∷ r.comes.between) (again ∷ r.comes.rest)))) ∙ sym (append_assoc k.before (k.sent ∷ between) (again ∷ r.comes.rest))) in
                  (k.before ++ k.sent ∷ between, r.comes.rest, again, reply, r.via, split, r.comes.hands, taken)

        answered : (path : Path) → (given : IsAnsweredInTime mac answers side path part) → (at (other side) given.1.comes.handed.following).controlling ≡ false
            → (x : Occurrence H P) × Has part x × SelectsPath side x.entry
        answered path given controlled =
            let z = returned path given controlled in
            let m = meet mac answers z.0 z.1 z.2 start last (subst (λ xs. Follow mac answers start xs last) z.5 follow) in
            selected z.0 z.1 z.2 z.3 z.4 z.6.now m.s m.t z.5 m.led (handed mac answers side z.4 z.3 z.2.before z.2.following m.s m.t z.2.entry z.6 m.happens) z.7

    -- ---- a check is sent in one of the rounds, or a path is selected

    polled : ExecutionsCheckFromDue {H = H} {P = P} mac answers → (first last : WorldRecord H P) (s : Streams) (before : List (Occurrence H P)) (r : SideRound H P) (rounds : List (SideRound H P)) (p : PairRecord) (by : ℕ)
        → IsNewlyCreated (at side first) → Follow mac answers first before r.timeout.before → Follow mac answers r.timeout.before (all_of (r ∷ rounds)) last → (at side r.timeout.before).controlling ≡ true
        → ((x : Occurrence H P) → Has (all_of (r ∷ rounds)) x → (at side x.following).controlling ≡ true) → Awaits r.now by (at side r.timeout.before) p → IsUnanswered (at side r.timeout.before) p
        → AreKept side by r rounds → AreEachPolled side by r rounds
        → SomeChecks mac answers (path_of (at side r.timeout.before) p) (r ∷ rounds) ⊎ ((x : Occurrence H P) × Has (all_of (r ∷ rounds)) x × SelectsPath side x.entry)
    polled checks first last s before r rounds p by n led (same, u, v, happens, more) role roles waits unanswered kept each =
        let own_first : IsKept (begins_modern side r) side r = kept.kept r (inl refl) in
        let c = cut mac answers r.following (all_of rounds) r.timeout.following last more in
        let k = steered r.following r.timeout.following c.0 c.1 (λ x has. roles x (inr (Has-front r.following (all_of rounds) x has))) in
        let moves = moved mac answers side r u v own_first.comes happens in
        let second : state_after r.timeout.following r.following ≡ c.0 = state_is mac answers r.following r.timeout.following c.0 c.1 in
        let enough : SufficeForDue by r.now (at side r.timeout.before) (at side c.0) (times_of (rounds_of mac answers side rounds)) =
        subst (λ ns. SufficeForDue by r.now (at side r.timeout.before) (at side c.0) ns) (sym (same_times mac answers side rounds))
        (subst (λ (w : WorldRecord H P). SufficeForDue by r.now (at side r.timeout.before) (at side w) (times_in rounds)) second (search each.few)) in
        elim (checks (fresh (at side first).provider n.0 n.1) (at side r.timeout.before) (at side last) ((agent.SetControlling n.2, quiet Done) ∷ own mac answers side before)
        (round_of mac answers side r) (rounds_of mac answers side rounds) p by (n.0, n.1, refl)
        (at side first, source_of side s, source_of side s, tt, (refl, n.3, refl), own_execution mac answers side before first r.timeout.before led)
        role waits unanswered (let from = kept.from in omega (arith, from)) own_first.done own_first.early (only_polls mac answers side by r rounds each) (
          at side r.timeout.following,
          at side c.0,
          source_of side u,
          moves.0,
          moves.1,
          roles r.timeout (inl refl),
          k.0,
          k.1,
          executions rounds c.0 last c.2 (λ x has. (kept.kept x (inr has)).comes) (λ x has. roles x (inr (Has-rear r.following (all_of rounds) x has))),
        )
        (are_passed mac answers side by r rounds kept each) enough) [
          | inl (z, id, has, out) ↦
              (let x = back mac answers side (r ∷ rounds) z has in inl (x.0, x.1, (id, ap (λ (y : ExecutionRound P). y.timeout.emitted.issued) x.2 ∙ out)))
          | inr among ↦ inr (selected_in (r ∷ rounds) r.timeout.before last (same, u, v, happens, more) among)
        ]

  pub rounds_select : PathTheorem {H = H} {P = P} mac answers → FreshIsSound H P → CarriedSucceedLater {H = H} {P = P} mac answers → ExecutionsCheckFromDue {H = H} {P = P} mac answers
      → ExecutionsReachUnanswered {H = H} {P = P} mac answers → ExecutionsReachServed {H = H} {P = P} mac answers → SuccessesSelect {H = H} {P = P} mac answers
      → (first : WorldRecord H P) (s : Streams) (log : List (LoggedEvent P)) → DeliveredRoundsSelect mac answers first s log
  rounds_select paths new_sound succeeds checks unanswered serves selects first s log last t run before more rest side r rounds p by segment answers_so =
      elim segment.enough [
        | inl each ↦ inl (elim (polled side checks first begun.0 s before r rounds p by (segment.new side) to begun.1 segment.role
            (λ x has. (steady x (Has-front (all_of (r ∷ rounds)) more x has)).0) segment.waits segment.unanswered segment.kept each) [
              | inl sent ↦ sends sent
              | inr (x, has, selected_paths) ↦ (x, Has-front (all_of (r ∷ rounds)) more x has, selected_paths)
            ])
        | inr many ↦ elim (reached_unanswered mac answers unanswered serves side first begun.0 s (own mac answers side before) r rounds p by (segment.new side) (own_execution mac answers side before first start to) begun.1
            segment.role segment.waits segment.unanswered segment.kept
            (elim many [
              | inl suffices ↦ inl (subst (λ (w : WorldRecord H P). SideRoundsSuffice side by r rounds w) (state_is mac answers (all_of (r ∷ rounds)) start begun.0 begun.1) suffices)
              | inr served ↦ inr served
            ])) [
              | inl (x, has, (its, is)) ↦ inl (succeeded_on its x has is)
              | inr (inl sent) ↦ inl (sends sent)
              | inr (inr (inl (x, has, is))) ↦ inl (succeeded_on path x has is)
              | inr (inr (inr ended)) ↦ inr (search ended)
            ]
      ] where
        part : List (Occurrence H P)
        part = all_of (r ∷ rounds) ++ more

        start : WorldRecord H P
        start = r.timeout.before

        path : Path
        path = path_of (at side start) p

        led : (mid : WorldRecord H P) × Follow mac answers first before mid × Follow mac answers mid (part ++ rest) last
        led = cut mac answers before (part ++ rest) first last (subst (λ xs. Follow mac answers first xs last) segment.split (follows mac answers first last s t 0 log run))

        to : Follow mac answers first before start
        to = subst (λ (w : WorldRecord H P). Follow mac answers first before w) (sym led.2.0) led.1

        on : (mid : WorldRecord H P) × Follow mac answers start part mid × Follow mac answers mid rest last
        on = cut mac answers part rest start last (subst (λ (w : WorldRecord H P). Follow mac answers w (part ++ rest) last) (sym led.2.0) led.2)

        begun : (mid : WorldRecord H P) × Follow mac answers start (all_of (r ∷ rounds)) mid × Follow mac answers mid more on.0
        begun = cut mac answers (all_of (r ∷ rounds)) more start on.0 on.1

        sound : AreSound start
        sound = sound_along mac answers paths before first start to (λ z. sound_new new_sound (at z first) (segment.new z))

        steady : (x : Occurrence H P) → Has part x → Leads side x.following
        steady x has = leads_at side part x segment.controlling has

        succeeded_on : (its : Path) (x : SideRound H P) → Has (r ∷ rounds) x → IsAnsweredAlong (own mac answers side x.following) its → (y : Occurrence H P) × Has part y × SelectsPath side y.entry
        succeeded_on its x has is =
            let y = succeeds_in mac answers side its x.following is in
            accepted side paths succeeds selects first start on.0 s before part (segment.new side) sound to on.1 segment.role (λ z there. (steady z there).0) segment.unanswered.invalid its y.0
            (Has-front (all_of (r ∷ rounds)) more y.0 (in_rounds mac answers (r ∷ rounds) x y.0 has y.1)) y.2

        sends : SomeChecks mac answers path (r ∷ rounds) → (x : Occurrence H P) × Has part x × SelectsPath side x.entry
        sends (x, has, sent) = by_answer (search (answers_so x has sent)) where
          by_answer : IsAnsweredInTime mac answers side path part → (x : Occurrence H P) × Has part x × SelectsPath side x.entry
          by_answer given =
              let k = given.1 in
              answered side paths succeeds selects first start on.0 s before part (segment.new side) sound to on.1 segment.role (λ z there. (steady z there).0) segment.unanswered.invalid path given
              (steady k.comes.handed (following_in mac answers side path given.0 part k k.comes.handed (inl refl))).1

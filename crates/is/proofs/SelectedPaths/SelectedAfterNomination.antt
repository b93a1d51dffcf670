-- A path of the controlled one of two agents that was nominated by the peer and answered is selected by its next
-- `handle_timeout` call. The preconditions that mutants/specifications changes are read by tactics where they are used: if one
-- of them is weaker, that goal stays unproved.
use Rattle.is_rules.specs.Steps as agent
use Rattle.is.specs.World as world
use Rattle.is.proofs.Common.{[], ◌++◌, ◌∙◌, ◌∷◌, ◌≡◌, ◌⊎◌, A, AcceptedNominationsAreSelected, AcceptedNominationsSelect, AcceptsNomination}
use Rattle.is.proofs.Common.{AcceptsNominationAlong, AgentRecord, ap, append_assoc, AreNominatedOn, at, B, CandidateRecord, CarriedAsk}
use Rattle.is.proofs.Common.{CarriedSucceedLater, Done, EndsAlong, Entry, Event, Execution, false, fresh, FreshIsSound, HandedCheck}
use Rattle.is.proofs.Common.{Happens, Has, HasSelected, inl, inr, is_some, IsAnsweredAlong, IsAskedOver, IsControlled, IsExchangedOver}
use Rattle.is.proofs.Common.{IsNewlyCreated, IsOnlyPair, IsReturned, IsTaken, IsValidBy, last_of, List, LoggedEvent, MayEndIn, None, not}
use Rattle.is.proofs.Common.{Occurrence, Option, other, Packet, Path, PathTheorem, quiet, refl, request_at, reversed, SelectsAlong}
use Rattle.is.proofs.Common.{SelectsPath, SelectsTop, Side, Some, source_of, Streams, subst, Success, sym, TakesTurn, true, via_out}
use Rattle.is.proofs.Common.{WorldRecord, ℕ}
use Rattle.is.proofs.ExternalViews.ViewsOfExecutions.{Has-front, Has-rear, AreSound}
use Rattle.is.proofs.RolesAndChains.RolesAndChainsOfViews.{sound_new}
use Rattle.is.proofs.TwoAgentEvents.OwnExecutions.{either_has, turn_step, acts_emitted}
use Rattle.is.proofs.TwoAgentEvents.DeliveredPackets.{rewritten, handed_has}
use Rattle.is.proofs.TwoAgentEvents.EventsOfSegments.{middle, Follow, follows, cut, meet, sound_along, acts_at, own, own_execution, own_has}
use Rattle.is.proofs.TwoAgentEvents.EventsOfSegments.{handed_is, Checked, checked, sent_in, following_in, Found, Owned, act_owned, owned}
use Rattle.is.proofs.TwoAgentEvents.EventsOfSegments.{awaited, Awaited, awaits, removed, awaited_in}
use Rattle.is.proofs.TwoAgentEvents.ExchangedChecks.{sent-check, carried-check, carried-back}
use Rattle.is.proofs.SelectedPaths.LastSelected.{selected_call}

module _ {H P : Type 0} (mac : H → List ℕ → List ℕ → List ℕ) (answers : P → CandidateRecord → ℕ → ℕ → Type 0) where
  pub own_emitted : (side : Side) (xs : List (Occurrence H P)) (w last : WorldRecord H P) → Follow mac answers w xs last → (y : agent.Call P × Entry) → Has (own mac answers side xs) y
      → is_some (last_of y.1.emitted.selected_paths) ≡ true → (x : Occurrence H P) × Has xs x × SelectsPath side x.entry
  own_emitted side [] w last is y has emitted = absurd has
  own_emitted side (x ∷ rest) w last (from, s, t, happens, more) y has emitted = elim (either_has (acts_at mac answers side x) (own mac answers side rest) y has) [
    | inl k ↦ (x, inl refl, acts_emitted mac answers x.before x.following s t side x.entry y x.entry.event happens k emitted)
    | inr k ↦ (let m = own_emitted side rest x.following last more y k emitted in (m.0, inr m.1, m.2))
  ]

  -- ---- the preconditions

  pub apart_at : (side : Side) (all : List (Occurrence H P)) (x : Occurrence H P) → IsControlled side all → Has all x → ((at side x.before).controlling ≡ false) × ((at (other side) x.before).controlling ≡ true)
  apart_at side all x roles has = search (roles x has)

  -- ---- the side is nominated by the peer

  pub accepts_nomination : PathTheorem {H = H} {P = P} mac answers → CarriedAsk {H = H} {P = P} mac answers → (from : Side) (path over : Path) (all : List (Occurrence H P)) (last : WorldRecord H P)
      (k : HandedCheck mac from path over all)
      → Checked mac answers from path over all last k → AreNominatedOn (at from k.sent.following) path → (at from k.sent.before).controlling ≡ true → (at (other from) k.comes.handed.before).controlling ≡ false
      → AcceptsNomination (at (other from) k.comes.handed.before) (agent.ReceivePacket k.comes.hands.now over k.check.contents) k.comes.handed.entry.outcome.entry (reversed over)
  accepts_nomination paths asks from path over all last k c nominated steers controlled =
      asks (sent-check mac answers from path over all last k c) (carried-check mac answers from path over all last k c) steers controlled
      (subst (λ w. AreNominatedOn (at from k.sent.following) w) (sym k.on) nominated)

  -- ---- the path is nominated in a segment

  module _ (side : Side) (path : Path) (whole : List (Occurrence H P)) where
    abbrev AcceptedNominations : List (agent.Call P × Entry) → AgentRecord H P → AgentRecord H P → Type 0
    AcceptedNominations xs a b = (execution : Execution mac answers xs a b) × (EndsAlong mac answers xs a b execution path → Found mac answers side path whole) × AcceptsNominationAlong mac answers xs a b execution path

    accepted_on : (xs ys : List (agent.Call P × Entry)) (a b c : AgentRecord H P) → Owned mac answers side path whole xs a b → AcceptedNominations ys b c → AcceptedNominations (xs ++ ys) a c
    accepted_on [] ys a b c (is, ends) more = subst (λ (z : AgentRecord H P). AcceptedNominations ys z c) is more
    accepted_on (x ∷ xs) ys a b c ((mid, s, t, based, step, on), ends) more =
        let k = accepted_on xs ys mid b c (on, λ e. ends (inr e)) more in
        ((mid, s, t, based, step, k.0), (λ e. elim e [ inl here ↦ ends (inl here) | inr later ↦ k.1 later ]), inr k.2)

    -- the first call accepts the nomination of the path
    accepts_nomination_first : (x : agent.Call P × Entry) (ys : List (agent.Call P × Entry)) (a b c : AgentRecord H P) → Owned mac answers side path whole (x ∷ []) a b → Owned mac answers side path whole ys b c → AcceptsNomination a x.0 x.1 path → b.controlling ≡ false
        → AcceptedNominations (x ∷ ys) a c
    accepts_nomination_first x ys a b c ((mid, s, t, based, step, is), ends) more accepts_nomination controlled =
        let k : Owned mac answers side path whole ys mid c = subst (λ (z : AgentRecord H P). Owned mac answers side path whole ys z c) is more in
        let role : mid.controlling ≡ false = sym (ap (λ (z : AgentRecord H P). z.controlling) is) ∙ controlled in
        ((mid, s, t, based, step, k.0), (λ e. elim e [ inl here ↦ ends (inl here) | inr later ↦ k.1 later ]), inl (accepts_nomination, role))

    nomination_accepted : (xs ys : List (Occurrence H P)) (x : Occurrence H P) (w last : WorldRecord H P) (c : agent.Call P) → Follow mac answers w (xs ++ x ∷ ys) last
        → ((y : Occurrence H P) → Has (xs ++ x ∷ ys) y → Has whole y) → acts_at mac answers side x ≡ (c, x.entry.outcome.entry) ∷ [] → AcceptsNomination (at side x.before) c x.entry.outcome.entry path
        → (at side x.following).controlling ≡ false → AcceptedNominations (own mac answers side (xs ++ x ∷ ys)) (at side w) (at side last)
    nomination_accepted [] ys x w last c (from, s, t, happens, more) among is accepts_nomination controlled =
        let one = act_owned mac answers side path whole x s t happens (among x (inl refl)) in
        let later = owned mac answers side path whole ys x.following last more (λ y has. among y (inr has)) in
        subst (λ (v : WorldRecord H P). AcceptedNominations (acts_at mac answers side x ++ own mac answers side ys) (at side v) (at side last)) from
        (subst (λ xs. AcceptedNominations (xs ++ own mac answers side ys) (at side x.before) (at side last)) (sym is)
        (accepts_nomination_first (c, x.entry.outcome.entry) (own mac answers side ys) (at side x.before) (at side x.following) (at side last)
        (subst (λ xs. Owned mac answers side path whole xs (at side x.before) (at side x.following)) is one) later accepts_nomination controlled))
    nomination_accepted (y ∷ xs) ys x w last c (from, s, t, happens, more) among is accepts_nomination controlled =
        subst (λ (v : WorldRecord H P). AcceptedNominations (acts_at mac answers side y ++ own mac answers side (xs ++ x ∷ ys)) (at side v) (at side last)) from
        (accepted_on (acts_at mac answers side y) (own mac answers side (xs ++ x ∷ ys)) (at side y.before) (at side y.following) (at side last) (act_owned mac answers side path whole y s t happens (among y (inl refl)))
        (nomination_accepted xs ys x y.following last c more (λ z has. among z (inr has)) is accepts_nomination controlled))

  -- the role before the next one, and so after this one
  pub role_next : (side : Side) (ys : List (Occurrence H P)) (w last : WorldRecord H P) → Follow mac answers w ys last → ((x : Occurrence H P) → Has ys x → (at side x.before).controlling ≡ false)
      → (at side last).controlling ≡ false → (at side w).controlling ≡ false
  role_next side [] w last is roles role = subst (λ (v : WorldRecord H P). (at side v).controlling ≡ false) is role
  role_next side (y ∷ ys) w last follow roles role = subst (λ (v : WorldRecord H P). (at side v).controlling ≡ false) follow.0 (roles y (inl refl))

  module _ (paths : PathTheorem {H = H} {P = P} mac answers) (asks : CarriedAsk {H = H} {P = P} mac answers) (succeeds : CarriedSucceedLater {H = H} {P = P} mac answers) where
    module _ (part whole : List (Occurrence H P)) (w last : WorldRecord H P) (sound : AreSound w) (follow : Follow mac answers w part last) (among : (x : Occurrence H P) → Has part x → Has whole x) where
      asked : (from : Side) (path over : Path) → ((x : Occurrence H P) → Has part x → ((at (other from) x.before).controlling ≡ false) × ((at from x.before).controlling ≡ true))
          → (at (other from) last).controlling ≡ false → (k : HandedCheck mac from path over part) → AreNominatedOn (at from k.sent.following) path
          → AcceptedNominations (other from) (reversed over) whole (own mac answers (other from) part) (at (other from) w) (at (other from) last)
      asked from path over roles role k nominated =
          let c = checked mac answers paths from path over part w last k sound follow in
          let handed = k.comes.handed in
          let split : part ≡ (k.before ++ k.sent ∷ k.comes.between) ++ handed ∷ k.comes.rest =
          k.split ∙ (ap (λ xs. k.before ++ k.sent ∷ xs) k.comes.split ∙ sym (append_assoc k.before (k.sent ∷ k.comes.between) (handed ∷ k.comes.rest))) in
          let controlled = role_next (other from) k.comes.rest handed.following last c.rest (λ x has. (roles x (following_in mac answers from path over part k x (inr has))).0) role in
          subst (λ xs. AcceptedNominations (other from) (reversed over) whole (own mac answers (other from) xs) (at (other from) w) (at (other from) last)) (sym split)
          (nomination_accepted (other from) (reversed over) whole (k.before ++ k.sent ∷ k.comes.between) k.comes.rest handed w last
          (agent.ReceivePacket k.comes.hands.now over k.check.contents) (subst (λ xs. Follow mac answers w xs last) split follow)
          (λ y has. among y (subst (λ xs. Has xs y) (sym split) has)) (handed_is mac answers (other from) over k.check handed.before handed.entry k.comes.hands)
          (accepts_nomination paths asks from path over part last k c nominated (roles k.sent (sent_in mac answers from path over part k)).1 (roles handed (following_in mac answers from path over part k handed (inl refl))).0)
          controlled)

      peer_nominated : (side : Side) (path : Path) → ((x : Occurrence H P) → Has part x → ((at side x.before).controlling ≡ false) × ((at (other side) x.before).controlling ≡ true))
          → (at side last).controlling ≡ false → IsAskedOver mac side path part → AcceptedNominations side path whole (own mac answers side part) (at side w) (at side last)
      peer_nominated A path roles role (its, k, nominated) = asked B its (reversed path) roles role k (search nominated)
      peer_nominated B path roles role (its, k, nominated) = asked A its (reversed path) roles role k (search nominated)

      -- the response to the check is accepted, or a pair of the path may have been removed mac answers
      returned : (side : Side) (path over : Path) → (k : HandedCheck mac side path over part) → (reply : Packet) → (r : IsReturned mac side path over part k reply)
          → (z : Awaited mac answers side path whole over part last k reply r)
          → (IsTaken mac answers (rewritten r.via reply) r.comes.hands.now r.comes.handed.entry.outcome.entry Success × IsValidBy mac answers (at side r.comes.handed.following) r.via)
          ⊎ EndsAlong mac answers (own mac answers side (awaited mac answers side path whole over part k reply r)) (at side k.sent.following) (at side r.comes.handed.before) z.execution.0 (via_out k.check)
          → IsAnsweredAlong (own mac answers side part) path ⊎ Found mac answers side path whole
      returned side path over k reply r z (inl (taken, valid)) =
          let again = r.comes.handed in
          let call : agent.Call P = agent.ReceivePacket r.comes.hands.now r.via reply.contents in
          inl (
            (call, again.entry.outcome.entry),
            own_has mac answers side part again (call, again.entry.outcome.entry) z.inside (handed_has mac answers side r.via reply again.before again.entry r.comes.hands),
            (r.comes.hands.now, r.via, taken.0, taken.1, taken.2, z.back),
          )
      returned side path over k reply r z (inr ends) = inr (removed mac answers side path whole over part last k reply r z ends)

      pub answered : (side : Side) (path : Path) → ((x : Occurrence H P) → Has part x → ((at side x.before).controlling ≡ false) × ((at (other side) x.before).controlling ≡ true))
          → IsExchangedOver mac side path part → IsAnsweredAlong (own mac answers side part) path ⊎ Found mac answers side path whole
      answered side path roles (over, k, returns) =
          let c = checked mac answers paths side path over part w last k sound follow in
          let handed = k.comes.handed in
          let there = succeeds (sent-check mac answers side path over part last k c) (carried-check mac answers side path over part last k c)
          (inl ((roles handed (following_in mac answers side path over part k handed (inl refl))).1 ∙ sym (ap not (roles k.sent (sent_in mac answers side path over part k)).0))) in
          let reply : Packet = there.0.reply in
          let r : IsReturned mac side path over part k reply = search (returns reply there.0.sends) in
          let z = awaits mac answers side path whole over part last k reply r c.onward (λ x has. among x (awaited_in mac answers side path whole over part k reply r x has)) in
          returned side path over k reply r z (there.1 (carried-back mac answers side path over part last k c whole reply r z))

  -- what was selected in the per-agent execution was selected in the network model
  emitted_back : (side : Side) (before part : List (Occurrence H P)) (timeout : Occurrence H P) (first start near : WorldRecord H P) (c d : agent.Call P) → Follow mac answers first before start → Follow mac answers start part near
      → timeout.entry.outcome.side ≡ Some side → SelectsAlong ((c, quiet Done) ∷ (own mac answers side before ++ (own mac answers side part ++ (d, timeout.entry.outcome.entry) ∷ [])))
      → (x : Occurrence H P) × Has (before ++ (part ++ timeout ∷ [])) x × SelectsPath side x.entry
  emitted_back side before part timeout first start near c d led on side_is (y, inl is, emitted) =
      absurd (let no : false ≡ true = ap (λ (z : agent.Call P × Entry). is_some (last_of z.1.emitted.selected_paths)) is ∙ emitted in cc)
  emitted_back side before part timeout first start near c d led on side_is (y, inr has, emitted) = elim (either_has (own mac answers side before) (own mac answers side part ++ (d, timeout.entry.outcome.entry) ∷ []) y has) [
    | inl h ↦ (let m = own_emitted side before first start led y h emitted in (m.0, Has-front before (part ++ timeout ∷ []) m.0 m.1, m.2))
    | inr h ↦ elim (either_has (own mac answers side part) ((d, timeout.entry.outcome.entry) ∷ []) y h) [
      | inl i ↦ (let m = own_emitted side part start near on y i emitted in (m.0, Has-rear before (part ++ timeout ∷ []) m.0 (Has-front part (timeout ∷ []) m.0 m.1), m.2))
      | inr i ↦ elim i [
        | inl is ↦ (timeout, Has-rear before (part ++ timeout ∷ []) timeout (middle part [] timeout), (side_is, ap (λ (z : agent.Call P × Entry). is_some (last_of z.1.emitted.selected_paths)) is ∙ emitted))
        | inr none ↦ absurd none
      ]
    ]
  ]

  -- the case in which the peer nominates the path, and the segment answers it in whichever way
  pub selected_where : PathTheorem {H = H} {P = P} mac answers → FreshIsSound H P → CarriedAsk {H = H} {P = P} mac answers → CarriedSucceedLater {H = H} {P = P} mac answers → AcceptedNominationsAreSelected {H = H} {P = P} mac answers
      → (first last : WorldRecord H P) (s : Streams) (before part rest : List (Occurrence H P)) (timeout : Occurrence H P) (now : ℕ) (side : Side) (path : Path)
      → ((x : Side) → IsNewlyCreated (at x first)) → Follow mac answers first (before ++ ((part ++ timeout ∷ []) ++ rest)) last
      → ((x : Occurrence H P) → Has (part ++ timeout ∷ []) x → ((at side x.before).controlling ≡ false) × ((at (other side) x.before).controlling ≡ true))
      → ((start : WorldRecord H P) → Follow mac answers first before start → AreSound start → Follow mac answers start part timeout.before
      → IsAskedOver mac side path part × (IsAnsweredAlong (own mac answers side part) path ⊎ Found mac answers side path (part ++ timeout ∷ [])))
      → timeout.entry.event ≡ world.Call side (agent.HandleTimeout now) → timeout.entry.outcome.entry.answer ≡ Done → request_at now (at side timeout.before) ≡ None
      → IsOnlyPair (at side timeout.following) path
      → SelectsTop mac answers side (before ++ (part ++ timeout ∷ [])) timeout ⊎ MayEndIn answers side path (part ++ timeout ∷ [])
  selected_where paths new_sound asks succeeds announce first last s before part rest timeout now side path new follow roles happened comes done none only_pair =
      let led = cut mac answers before ((part ++ timeout ∷ []) ++ rest) first last follow in
      let start : WorldRecord H P = led.0 in
      let on = cut mac answers (part ++ timeout ∷ []) rest start last led.2 in
      let m = meet mac answers part [] timeout start on.0 on.1 in
      let sound : AreSound start = sound_along mac answers paths before first start led.1 (λ z. sound_new new_sound (at z first) (new z)) in
      let turn : TakesTurn mac answers timeout.before m.s side (agent.HandleTimeout now) timeout.entry.outcome timeout.following m.t =
      subst (λ (v : Event P). Happens mac answers timeout.before m.s v timeout.entry.outcome timeout.following m.t) comes m.happens in
      let roles_part = λ (x : Occurrence H P) (has : Has part x). roles x (Has-front part (timeout ∷ []) x has) in
      let among = λ (x : Occurrence H P) (has : Has part x). Has-front part (timeout ∷ []) x has in
      let h = happened start led.1 sound m.led in
      let g = peer_nominated paths asks succeeds part (part ++ timeout ∷ []) start timeout.before sound m.led among side path roles_part (roles timeout (middle part [] timeout)).0 h.0 in
      let n = new side in
      elim h.1 [
        | inl replied ↦ elim (announce (fresh (at side first).provider n.0 n.1) (at side start) (at side timeout.before) (at side timeout.following) ((agent.SetControlling n.2, quiet Done) ∷ own mac answers side before)
            (own mac answers side part) (source_of side m.s) turn.left now timeout.entry.outcome.entry path (n.0, n.1, refl)
            (at side first, source_of side s, source_of side s, tt, (refl, n.3, refl), own_execution mac answers side before first start led.1)
            g.0 (turn_step mac answers timeout.before timeout.following m.s m.t side (agent.HandleTimeout now) timeout.entry.outcome turn) done none g.2 replied only_pair) [
              | inl emitted ↦ inl (record {
                selects = emitted_back side before part timeout first start timeout.before (agent.SetControlling n.2) (agent.HandleTimeout now) led.1 m.led turn.side_is emitted.0;
                top = subst (λ (o : Option Path). HasSelected o (at side timeout.following)) (sym (selected_call mac answers side before part timeout now comes)) emitted.1;
              })
              | inr ends ↦ inr (elim ends [
                | inl e ↦ g.1 e
                | inr e ↦ (timeout, middle part [] timeout, (agent.HandleTimeout now, comes, e))
              ])
            ]
        | inr found ↦ inr found
      ]

  pub accepted_select : PathTheorem {H = H} {P = P} mac answers → FreshIsSound H P → CarriedAsk {H = H} {P = P} mac answers → CarriedSucceedLater {H = H} {P = P} mac answers → AcceptedNominationsAreSelected {H = H} {P = P} mac answers
      → (first : WorldRecord H P) (s : Streams) (log : List (LoggedEvent P)) → AcceptedNominationsSelect mac answers first s log
  accepted_select paths new_sound asks succeeds announce first s log last t run before part rest timeout side path segment ask answer =
      let idle : request_at segment.plain.now (at side timeout.before) ≡ None = search segment.plain.serves_none in
      let lone : IsOnlyPair (at side timeout.following) path = search segment.only_pair in
      let apart : (x : Occurrence H P) → Has (part ++ timeout ∷ []) x → ((at side x.before).controlling ≡ false) × ((at (other side) x.before).controlling ≡ true) =
      λ x has. apart_at side (part ++ timeout ∷ []) x segment.controlled has in
      selected_where paths new_sound asks succeeds announce first last s before part rest timeout segment.plain.now side path segment.new
      (subst (λ xs. Follow mac answers first xs last) segment.split (follows mac answers first last s t 0 log run)) apart
      (λ start led sound follow. (
        ask,
        answered paths asks succeeds part (part ++ timeout ∷ []) start timeout.before sound follow
            (λ (x : Occurrence H P) (has : Has part x). Has-front part (timeout ∷ []) x has) side path
            (λ (x : Occurrence H P) (has : Has part x). apart x (Has-front part (timeout ∷ []) x has)) answer,
      ))
      segment.plain.event segment.plain.done idle lone

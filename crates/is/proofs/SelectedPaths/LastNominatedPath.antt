-- Two agents with renomination: the path that the controlling one nominated last is the one that both selected last. The
-- preconditions that mutants/specifications changes are read by tactics where they are used: if one of them is weaker, that goal stays unproved.
use Rattle.is_rules.specs.Steps as agent
use Rattle.is_theorems.specs.Numbered.{GreatestAreLast, LeadsByNumber}
use Rattle.is.specs.World as world
use Rattle.is.proofs.Common.{[], ◌++◌, ◌||◌, ◌∙◌, ◌∷◌, ◌≡◌, ◌⊎◌, A, AcceptsNomination, AcceptsNominationLastAlong}
use Rattle.is.proofs.Common.{AcceptsNominationOnlyAlong, acts, AgentRecord, Answer, ap, append_assoc, AreNominatedOn, at, B, Bool}
use Rattle.is.proofs.Common.{CandidateRecord, CarriedAsk, CarriedSucceedLater, Done, EndsAlong, Entry, Event, Execution, false}
use Rattle.is.proofs.Common.{FreshIsSound, HandedCheck, Happens, Has, if◌then◌else◌, in_world, InFlightRecord, inl, inr, is_some}
use Rattle.is.proofs.Common.{IsAnsweredAlong, IsControlled, IsExchangedOver, IsNewlyCreated, IsNominatedOn, IsOnlyPair, IsSelectedLast}
use Rattle.is.proofs.Common.{IsServing, Issued, issued_as, KeepsSelected, LastAcceptedNominationsAreLast, LeadingPathIsSelected, List}
use Rattle.is.proofs.Common.{LoggedEvent, MatchBool, Message, NominatedAreLast, NominatesNoOther, None, numbers, Occurrence}
use Rattle.is.proofs.Common.{OnePathIsSelected, only, Option, other, Packet, Path, PathEffect, PathTheorem, Persists, polled_as}
use Rattle.is.proofs.Common.{received_as, refl, Rejected, request_at, RequestRecord, reversed, selected_along, Side, slice_get, Some}
use Rattle.is.proofs.Common.{source_of, Streams, subst, Success, sym, TakesTurn, true, WorldRecord, ℕ}
use Rattle.is.proofs.ExternalViews.ViewsOfExecutions.{Has-front, AreSound}
use Rattle.is.proofs.RolesAndChains.RolesAndChainsOfViews.{sound_new}
use Rattle.is.proofs.TwoAgentEvents.OwnExecutions.{only_own, sound_on, turn_step, twice}
use Rattle.is.proofs.TwoAgentEvents.EventsOfSegments.{middle, Follow, follows, cut, meet, sound_along, acts_at, own, own_execution}
use Rattle.is.proofs.TwoAgentEvents.EventsOfSegments.{handed_is, checked, sent_in, following_in, Found, Owned, act_owned}
use Rattle.is.proofs.SelectedPaths.SelectedAfterNomination.{answered, apart_at, accepts_nomination, role_next}
use Rattle.is.proofs.TwoAgentEvents.OwnLogs.{AtMostOne, acts_once}
use Rattle.is.proofs.SelectedPaths.LastSelected.{called_not, nominated_selected, selected_call, selected_parts}
use Rattle.is_rules.specs.Serving.{nominates as asks_of}
use Rattle.is_theorems.proofs.BasicLemmas.ServedPairs.{taken-asks}

sender_is : (sender side : Side) → other sender ≡ side → sender ≡ other side
sender_is A side is = ap other is
sender_is B side is = ap other is

module _ {H P : Type 0} (mac : H → List ℕ → List ℕ → List ℕ) (answers : P → CandidateRecord → ℕ → ℕ → Type 0) where
  execution_join : (xs ys : List (agent.Call P × Entry)) (a b c : AgentRecord H P) → Execution mac answers xs a b → Execution mac answers ys b c → Execution mac answers (xs ++ ys) a c
  execution_join [] ys a b c is on = subst (λ (z : AgentRecord H P). Execution mac answers ys z c) is on
  execution_join (x ∷ xs) ys a b c (mid, s, t, given, step, more) on = (mid, s, t, given, step, execution_join xs ys mid b c more on)

  -- ---- the controlled side is nominated no other path

  -- a call of the network model accepts no nomination
  call_accepts_nomination : (a : AgentRecord H P) (c : agent.Call P) (e : Entry) (one : Path) → in_world c ≡ true → ((now : ℕ) → c ≡ agent.HandleTimeout now → request_at now a ≡ None)
      → AcceptsNomination a c e one → ⊥
  call_accepts_nomination a (agent.ReceivePacket now via bytes) e one within idle g = let no : false ≡ true = within in cc
  call_accepts_nomination a (agent.HandleTimeout now) e one within idle (q, id, serving, uses, out) = let no : None ≡ Some q = sym (idle now refl) ∙ serving.0 in cc
  call_accepts_nomination a _ e one within idle (q, id, serving, uses, out) = serving.3

  -- an accepted nomination is of the reverse path
  packet_accepts_nomination : (a b : AgentRecord H P) (now : ℕ) (via : Path) (bytes : List ℕ) (e : Entry) (one : Path) → PathEffect mac a (agent.ReceivePacket now via bytes) e b
      → AcceptsNomination a (agent.ReceivePacket now via bytes) e one → one ≡ reversed via
  packet_accepts_nomination a b now via bytes e one f (q, id, serving, uses, out) = by (f.replied (issued_as one Success id) out refl) where
    by : ((r : RequestRecord) × IsServing a (agent.ReceivePacket now via bytes) e r × (issued_as one Success id ≡ issued_as (reversed r.path) Success r.id)
        × (asks_of a r ≡ true → b.controlling ≡ false → IsNominatedOn b (reversed r.path))) → one ≡ reversed via
    by (r, (at_, by_, m, brings, request, known, is), same, marks) =
        ap (λ (i : Issued). i.path) same ∙ (ap (λ (y : RequestRecord). reversed y.path) is ∙ ap reversed (sym brings.1))

  poll_accepts_nomination : (a : AgentRecord H P) (answer : Answer) (ps : List Packet) (y : agent.Call P × Entry) (one : Path) → Has (polled_as answer ps) y → AcceptsNomination a y.0 y.1 one → ⊥
  poll_accepts_nomination a (Rejected error) ps y one has g = has
  poll_accepts_nomination a _ ps y one (inl same) g = (subst (λ (u : agent.Call P × Entry). AcceptsNomination a u.0 u.1 one) (sym same) g).2.3
  poll_accepts_nomination a _ ps y one (inr none) g = none

  module _ (paths : PathTheorem {H = H} {P = P} mac answers) (side : Side) (path : Path) where
    -- each nomination that one of the calls accepts is of the path
    abbrev OnlyAt : AgentRecord H P → List (agent.Call P × Entry) → Type 0
    OnlyAt a xs = (y : agent.Call P × Entry) → Has xs y → (one : Path) → AcceptsNomination a y.0 y.1 one → one ≡ path

    reversed_only : (z : Side) (a : AgentRecord H P) (c : agent.Call P) (e : Entry) → (z ≡ side → (one : Path) → AcceptsNomination a c e one → one ≡ path) → OnlyAt a (only side z ((c, e) ∷ []))
    reversed_only z a c e is y has one g = let o = only_own side z ((c, e) ∷ []) y has in elim o.0 [
      | inl same ↦ is o.1 one (subst (λ (u : agent.Call P × Entry). AcceptsNomination a u.0 u.1 one) (sym same) g)
      | inr none ↦ absurd none
    ]

    acts_only : (x : Occurrence H P) (s t : Streams) → AreSound x.before → Happens mac answers x.before s x.entry.event x.entry.outcome x.following t → NominatesNoOther side path x
        → OnlyAt (at side x.before) (acts_at mac answers side x)
    acts_only x s t sound happens n = by x.entry.event refl happens where
      received : (place now : ℕ) (via : Path) (l : InFlightRecord) → x.entry.event ≡ world.Deliver place now via → slice_get x.before.network place ≡ Some l
          → TakesTurn mac answers x.before s (other l.sender) (agent.ReceivePacket now via l.packet.contents) x.entry.outcome x.following t → other l.sender ≡ side
          → (one : Path) → AcceptsNomination (at side x.before) (agent.ReceivePacket now via l.packet.contents) x.entry.outcome.entry one → one ≡ path
      received place now via l is there k same one g =
          let turn : TakesTurn mac answers x.before s side (agent.ReceivePacket now via l.packet.contents) x.entry.outcome x.following t =
          subst (λ z. TakesTurn mac answers x.before s z (agent.ReceivePacket now via l.packet.contents) x.entry.outcome x.following t) same k in
          let f = (paths (at side x.before) (at side x.following) (source_of side s) turn.left (agent.ReceivePacket now via l.packet.contents) x.entry.outcome.entry (sound side) tt
          (turn_step mac answers x.before x.following s t side (agent.ReceivePacket now via l.packet.contents) x.entry.outcome turn)).0 in
          let m : Message = g.2.2 in
          let uses : (m.attributes.use_candidate || is_some m.attributes.nomination) ≡ true =
          ap (λ (y : RequestRecord). y.use_candidate || is_some y.nomination) (sym g.2.6) ∙ taken-asks (numbers (at side x.before)) g.0 g.3 in
          let on : via ≡ reversed path = search (n.comes place now via l m is there (sender_is l.sender side same) g.2.3.2 g.2.4 uses) in
          packet_accepts_nomination (at side x.before) (at side x.following) now via l.packet.contents x.entry.outcome.entry one f g ∙ ap reversed on

      by : (v : Event P) → x.entry.event ≡ v → Happens mac answers x.before s v x.entry.outcome x.following t → OnlyAt (at side x.before) (acts side x.before v x.entry.outcome.entry)
      by (world.Call z c) is h = called (in_world c) refl h where
        called : (b : Bool) → in_world c ≡ b → MatchBool b (TakesTurn mac answers x.before s z c x.entry.outcome x.following t) (Persists mac answers x.before s agent.NotInWorld (Some z) x.entry.outcome x.following t)
            → OnlyAt (at side x.before) (only side z (if b then (c, x.entry.outcome.entry) ∷ [] else []))
        called true within k = reversed_only z (at side x.before) c x.entry.outcome.entry (λ same one g. absurd (call_accepts_nomination (at side x.before) c x.entry.outcome.entry one within
            (λ now c_is. search (n.early now (is ∙ (ap (λ u. world.Call u c) same ∙ ap (λ d. world.Call side d) c_is)))) g))
        called false within k = λ y has. absurd (only_own side z [] y has).0
      by (world.Poll z) is k = λ y has one g. absurd
          (poll_accepts_nomination (at side x.before) x.entry.outcome.entry.answer (at side x.before).packets y one
          (only_own side z (polled_as x.entry.outcome.entry.answer (at side x.before).packets) y has).0 g)
      by (world.Deliver place now via) is h = given (slice_get x.before.network place) refl h where
        given : (o : Option InFlightRecord) → slice_get x.before.network place ≡ o → world.Delivers mac answers x.before s o now via x.entry.outcome x.following t
            → OnlyAt (at side x.before) (received_as side now via x.entry.outcome.entry o)
        given None there k = λ y has. absurd has
        given (Some l) there k =
            reversed_only (other l.sender) (at side x.before) (agent.ReceivePacket now via l.packet.contents) x.entry.outcome.entry (received place now via l is there k)
      by (world.Stray z now via bytes) is h = λ y has. absurd has

    -- ---- the last nomination that the side accepts

    module _ (whole : List (Occurrence H P)) where
      abbrev Kept : List (agent.Call P × Entry) → AgentRecord H P → AgentRecord H P → Type 0
      Kept xs a b = (execution : Execution mac answers xs a b) × (EndsAlong mac answers xs a b execution path → Found mac answers side path whole) × AcceptsNominationOnlyAlong mac answers xs a b execution path

      abbrev AcceptedNominations : List (agent.Call P × Entry) → AgentRecord H P → AgentRecord H P → Type 0
      AcceptedNominations xs a b = (execution : Execution mac answers xs a b) × (EndsAlong mac answers xs a b execution path → Found mac answers side path whole) × AcceptsNominationLastAlong mac answers xs a b execution path

      kept_on : (xs ys : List (agent.Call P × Entry)) (a b c : AgentRecord H P) → AtMostOne xs → Owned mac answers side path whole xs a b → OnlyAt a xs → Kept ys b c → Kept (xs ++ ys) a c
      kept_on [] ys a b c one (is, ends) only_here more = subst (λ (z : AgentRecord H P). Kept ys z c) is more
      kept_on (x ∷ []) ys a b c one ((mid, s, t, based, step, is), ends) only_here more =
          let k : Kept ys mid c = subst (λ (z : AgentRecord H P). Kept ys z c) is more in
          ((mid, s, t, based, step, k.0), (λ e. elim e [ inl here ↦ ends (inl here) | inr later ↦ k.1 later ]), (only_here x (inl refl), k.2))
      kept_on (x ∷ y ∷ rest) ys a b c one own_is only_here more = absurd one

      kept_along : (xs : List (Occurrence H P)) (w last : WorldRecord H P) → AreSound w → Follow mac answers w xs last → ((x : Occurrence H P) → Has xs x → Has whole x)
          → ((x : Occurrence H P) → Has xs x → NominatesNoOther side path x) → Kept (own mac answers side xs) (at side w) (at side last)
      kept_along [] w last sound is among none = (ap (λ (v : WorldRecord H P). at side v) is, (λ no. absurd no), tt)
      kept_along (x ∷ rest) w last sound (from, s, t, happens, more) among none =
          let here : AreSound x.before = subst AreSound (sym from) sound in
          subst (λ (v : WorldRecord H P). Kept (own mac answers side (x ∷ rest)) (at side v) (at side last)) from
          (kept_on (acts_at mac answers side x) (own mac answers side rest) (at side x.before) (at side x.following) (at side last)
          (acts_once side x.before x.entry.event x.entry.outcome.entry) (act_owned mac answers side path whole x s t happens (among x (inl refl)))
          (acts_only x s t here happens (none x (inl refl)))
          (kept_along rest x.following last (sound_on mac answers paths x.before x.following s t x.entry here happens) more (λ y has. among y (inr has)) (λ y has. none y (inr has))))

      accepted_on : (xs ys : List (agent.Call P × Entry)) (a b c : AgentRecord H P) → Owned mac answers side path whole xs a b → AcceptedNominations ys b c → AcceptedNominations (xs ++ ys) a c
      accepted_on [] ys a b c (is, ends) more = subst (λ (z : AgentRecord H P). AcceptedNominations ys z c) is more
      accepted_on (x ∷ xs) ys a b c ((mid, s, t, based, step, on), ends) more =
          let k = accepted_on xs ys mid b c (on, λ e. ends (inr e)) more in
          ((mid, s, t, based, step, k.0), (λ e. elim e [ inl here ↦ ends (inl here) | inr later ↦ k.1 later ]), inr k.2)

      accepted_first : (x : agent.Call P × Entry) (ys : List (agent.Call P × Entry)) (a b c : AgentRecord H P) → Owned mac answers side path whole (x ∷ []) a b → Kept ys b c
          → AcceptsNomination a x.0 x.1 path → b.controlling ≡ false → AcceptedNominations (x ∷ ys) a c
      accepted_first x ys a b c ((mid, s, t, based, step, is), ends) more accepts controlled =
          let k : Kept ys mid c = subst (λ (z : AgentRecord H P). Kept ys z c) is more in
          let role : mid.controlling ≡ false = sym (ap (λ (z : AgentRecord H P). z.controlling) is) ∙ controlled in
          ((mid, s, t, based, step, k.0), (λ e. elim e [ inl here ↦ ends (inl here) | inr later ↦ k.1 later ]), inl (accepts, role, k.2))

      accepted_last : (xs ys : List (Occurrence H P)) (x : Occurrence H P) (w last : WorldRecord H P) (c : agent.Call P) → AreSound w → Follow mac answers w (xs ++ x ∷ ys) last
          → ((y : Occurrence H P) → Has (xs ++ x ∷ ys) y → Has whole y) → ((y : Occurrence H P) → Has ys y → NominatesNoOther side path y)
          → acts_at mac answers side x ≡ (c, x.entry.outcome.entry) ∷ [] → AcceptsNomination (at side x.before) c x.entry.outcome.entry path → (at side x.following).controlling ≡ false
          → AcceptedNominations (own mac answers side (xs ++ x ∷ ys)) (at side w) (at side last)
      accepted_last [] ys x w last c sound (from, s, t, happens, more) among none is accepts controlled =
          let one = act_owned mac answers side path whole x s t happens (among x (inl refl)) in
          let later = kept_along ys x.following last (sound_on mac answers paths x.before x.following s t x.entry (subst AreSound (sym from) sound) happens) more (λ y has. among y (inr has)) none in
          subst (λ (v : WorldRecord H P). AcceptedNominations (acts_at mac answers side x ++ own mac answers side ys) (at side v) (at side last)) from
          (subst (λ zs. AcceptedNominations (zs ++ own mac answers side ys) (at side x.before) (at side last)) (sym is)
          (accepted_first (c, x.entry.outcome.entry) (own mac answers side ys) (at side x.before) (at side x.following) (at side last)
          (subst (λ zs. Owned mac answers side path whole zs (at side x.before) (at side x.following)) is one) later accepts controlled))
      accepted_last (y ∷ xs) ys x w last c sound (from, s, t, happens, more) among none is accepts controlled =
          subst (λ (v : WorldRecord H P). AcceptedNominations (acts_at mac answers side y ++ own mac answers side (xs ++ x ∷ ys)) (at side v) (at side last)) from
          (accepted_on (acts_at mac answers side y) (own mac answers side (xs ++ x ∷ ys)) (at side y.before) (at side y.following) (at side last)
          (act_owned mac answers side path whole y s t happens (among y (inl refl)))
          (accepted_last xs ys x y.following last c (sound_on mac answers paths y.before y.following s t y.entry (subst AreSound (sym from) sound) happens) more
          (λ z has. among z (inr has)) none is accepts controlled))

  -- ---- both sides

  module _ (paths : PathTheorem {H = H} {P = P} mac answers) (new_sound : FreshIsSound H P) (asks : CarriedAsk {H = H} {P = P} mac answers)
      (nominates : NominatedAreLast {H = H} {P = P} mac answers) (follows_last : LastAcceptedNominationsAreLast {H = H} {P = P} mac answers) where
    -- the controlled side accepts the nomination last
    accepts_last : (from : Side) (its over : Path) (part whole : List (Occurrence H P)) (w last : WorldRecord H P) → AreSound w → Follow mac answers w part last
        → ((x : Occurrence H P) → Has part x → Has whole x) → ((x : Occurrence H P) → Has part x → ((at (other from) x.before).controlling ≡ false) × ((at from x.before).controlling ≡ true))
        → (at (other from) last).controlling ≡ false → (k : HandedCheck mac from its over part) → AreNominatedOn (at from k.sent.following) its
        → ((x : Occurrence H P) → Has k.comes.rest x → NominatesNoOther (other from) (reversed over) x)
        → AcceptedNominations paths (other from) (reversed over) whole (own mac answers (other from) part) (at (other from) w) (at (other from) last)
    accepts_last from its over part whole w last sound follow among roles role k nominated none =
        let c = checked mac answers paths from its over part w last k sound follow in
        let handed = k.comes.handed in
        let split : part ≡ (k.before ++ k.sent ∷ k.comes.between) ++ handed ∷ k.comes.rest =
        k.split ∙ (ap (λ xs. k.before ++ k.sent ∷ xs) k.comes.split ∙ sym (append_assoc k.before (k.sent ∷ k.comes.between) (handed ∷ k.comes.rest))) in
        let controlled = role_next mac answers (other from) k.comes.rest handed.following last c.rest (λ x has. (roles x (following_in mac answers from its over part k x (inr has))).0) role in
        subst (λ xs. AcceptedNominations paths (other from) (reversed over) whole (own mac answers (other from) xs) (at (other from) w) (at (other from) last)) (sym split)
        (accepted_last paths (other from) (reversed over) whole (k.before ++ k.sent ∷ k.comes.between) k.comes.rest handed w last
        (agent.ReceivePacket k.comes.hands.now over k.check.contents) sound (subst (λ xs. Follow mac answers w xs last) split follow)
        (λ y has. among y (subst (λ xs. Has xs y) (sym split) has)) none (handed_is mac answers (other from) over k.check handed.before handed.entry k.comes.hands)
        (accepts_nomination mac answers paths asks from its over part last k c nominated (roles k.sent (sent_in mac answers from its over part k)).1 (roles handed (following_in mac answers from its over part k handed (inl refl))).0)
        controlled)

    module _ (from : Side) (its over : Path) (before part rest : List (Occurrence H P)) (timeout : Occurrence H P) (now : ℕ) (first last : WorldRecord H P)
        (new : (x : Side) → IsNewlyCreated (at x first)) (follow : Follow mac answers first (before ++ ((part ++ timeout ∷ []) ++ rest)) last)
        (set : (x : Occurrence H P) → Has (part ++ timeout ∷ []) x → (side : Side) → (at side x.following).renominates ≡ true)
        (k : HandedCheck mac from its over part) (nominated : AreNominatedOn (at from k.sent.following) its) (keeps : (x : Occurrence H P) → Has k.following x → KeepsSelected from x)
        (comes : timeout.entry.event ≡ world.Call (other from) (agent.HandleTimeout now)) (done : timeout.entry.outcome.entry.answer ≡ Done)
        (idle : request_at now (at (other from) timeout.before) ≡ None) where
      abbrev near_it : Type 0
      near_it = IsSelectedLast from its (before ++ (part ++ timeout ∷ []))

      controls : (start : WorldRecord H P) → Follow mac answers first before start → AreSound start → Follow mac answers start part timeout.before → near_it
      controls start led sound on =
          let sent_has = Has-front part (timeout ∷ []) k.sent (sent_in mac answers from its over part k) in
          let quiet_there : acts_at mac answers from timeout ≡ [] = subst (λ z. acts_at mac answers z timeout ≡ []) (twice from) (called_not mac answers (other from) timeout now comes) in
          let start_is : Option Path = selected_along None (own mac answers from before) in
          selected_parts mac answers from before part timeout
          ∙ (ap (λ xs. selected_along (selected_along start_is (own mac answers from part)) xs) quiet_there
          ∙ nominated_selected mac answers paths nominates from its over before part first start timeout.before (new from) led sound on k (set k.sent sent_has from) nominated keeps)

      -- by numbers
      module _ (leads_last : GreatestAreLast {H = H} {P = P} mac answers) (number : ℕ) (leads : LeadsByNumber (at (other from) timeout.following) number (reversed over)) where
        leads_it : (start : WorldRecord H P) (u v : Streams) → Follow mac answers first before start → Follow mac answers start part timeout.before
            → Happens mac answers timeout.before u timeout.entry.event timeout.entry.outcome timeout.following v
            → IsSelectedLast (other from) (reversed over) (before ++ (part ++ timeout ∷ []))
        leads_it start u v led on happens =
            let side : Side = other from in
            let earlier : List (agent.Call P × Entry) = own mac answers side before in
            let here : List (agent.Call P × Entry) = own mac answers side part in
            let call : agent.Call P × Entry = (agent.HandleTimeout now, timeout.entry.outcome.entry) in
            let turn : TakesTurn mac answers timeout.before u side (agent.HandleTimeout now) timeout.entry.outcome timeout.following v =
            subst (λ (w : Event P). Happens mac answers timeout.before u w timeout.entry.outcome timeout.following v) comes happens in
            let whole : Execution mac answers (earlier ++ here) (at side first) (at side timeout.before) =
            execution_join earlier here (at side first) (at side start) (at side timeout.before) (own_execution mac answers side before first start led) (own_execution mac answers side part start timeout.before on) in
            selected_call mac answers side before part timeout now comes
            ∙ (ap (λ xs. selected_along None xs) (sym (append_assoc earlier here (call ∷ [])))
            ∙ leads_last (at side first) (at side timeout.before) (at side timeout.following) (earlier ++ here) (source_of side u) turn.left now timeout.entry.outcome.entry number (reversed over) (new side)
            whole (turn_step mac answers timeout.before timeout.following u v side (agent.HandleTimeout now) timeout.entry.outcome turn) done idle leads)

        both_lead : near_it × IsSelectedLast (other from) (reversed over) (before ++ (part ++ timeout ∷ []))
        both_lead =
            let led = cut mac answers before ((part ++ timeout ∷ []) ++ rest) first last follow in
            let on = cut mac answers (part ++ timeout ∷ []) rest led.0 last led.2 in
            let m = meet mac answers part [] timeout led.0 on.0 on.1 in
            let sound : AreSound led.0 = sound_along mac answers paths before first led.0 led.1 (λ z. sound_new new_sound (at z first) (new z)) in
            (controls led.0 led.1 sound m.led, leads_it led.0 m.s m.t led.1 m.led m.happens)

      module _ (roles : (x : Occurrence H P) → Has (part ++ timeout ∷ []) x → ((at (other from) x.before).controlling ≡ false) × ((at from x.before).controlling ≡ true))
          (plain : numbers (at (other from) timeout.following) ≡ false)
          (none : (x : Occurrence H P) → Has k.comes.rest x → NominatesNoOther (other from) (reversed over) x)
          (replies : (start : WorldRecord H P) → AreSound start → Follow mac answers start part timeout.before
          → IsAnsweredAlong (own mac answers (other from) part) (reversed over) ⊎ Found mac answers (other from) (reversed over) (part ++ timeout ∷ []))
          (only_pair : IsOnlyPair (at (other from) timeout.following) (reversed over)) where
        abbrev far_it : Type 0
        far_it = IsSelectedLast (other from) (reversed over) (before ++ (part ++ timeout ∷ [])) ⊎ Found mac answers (other from) (reversed over) (part ++ timeout ∷ [])

        follows_it : (start : WorldRecord H P) (u v : Streams) → Follow mac answers first before start → AreSound start → Follow mac answers start part timeout.before
            → Happens mac answers timeout.before u timeout.entry.event timeout.entry.outcome timeout.following v → far_it
        follows_it start u v led sound on happens =
            let side : Side = other from in
            let path : Path = reversed over in
            let earlier : List (agent.Call P × Entry) = own mac answers side before in
            let here : List (agent.Call P × Entry) = own mac answers side part in
            let turn : TakesTurn mac answers timeout.before u side (agent.HandleTimeout now) timeout.entry.outcome timeout.following v =
            subst (λ (w : Event P). Happens mac answers timeout.before u w timeout.entry.outcome timeout.following v) comes happens in
            let among = λ (x : Occurrence H P) (has : Has part x). Has-front part (timeout ∷ []) x has in
            let role : (at side timeout.before).controlling ≡ false = (roles timeout (middle part [] timeout)).0 in
            let g = accepts_last from its over part (part ++ timeout ∷ []) start timeout.before sound on among (λ x has. roles x (among x has)) role k nominated none in
            elim (replies start sound on) [
              | inr found ↦ inr found
              | inl replied ↦ elim (follows_last (at side first) (at side start) (at side timeout.before) (at side timeout.following) earlier here (source_of side u) turn.left now timeout.entry.outcome.entry path (new side)
                  (own_execution mac answers side before first start led) g.0 (turn_step mac answers timeout.before timeout.following u v side (agent.HandleTimeout now) timeout.entry.outcome turn) done idle
                  (set timeout (middle part [] timeout) side) plain role g.2 replied only_pair) [
                    | inr ends ↦ inr (elim ends [
                      | inl e ↦ g.1 e
                      | inr e ↦ (timeout, middle part [] timeout, (agent.HandleTimeout now, comes, e))
                    ])
                    | inl is ↦ inl (selected_call mac answers side before part timeout now comes ∙ is)
                  ]
            ]

        both_selected : near_it × far_it
        both_selected =
            let led = cut mac answers before ((part ++ timeout ∷ []) ++ rest) first last follow in
            let on = cut mac answers (part ++ timeout ∷ []) rest led.0 last led.2 in
            let m = meet mac answers part [] timeout led.0 on.0 on.1 in
            let sound : AreSound led.0 = sound_along mac answers paths before first led.0 led.1 (λ z. sound_new new_sound (at z first) (new z)) in
            (controls led.0 led.1 sound m.led, follows_it led.0 m.s m.t led.1 sound m.led m.happens)

    module _ (succeeds : CarriedSucceedLater {H = H} {P = P} mac answers) where
      -- the side's own check is answered, or a pair of its path may have been removed
      replied : (side : Side) (path : Path) (part : List (Occurrence H P)) (timeout : Occurrence H P) → IsControlled side (part ++ timeout ∷ []) → IsExchangedOver mac side path part
          → (start : WorldRecord H P) → AreSound start → Follow mac answers start part timeout.before
          → IsAnsweredAlong (own mac answers side part) path ⊎ Found mac answers side path (part ++ timeout ∷ [])
      replied side path part timeout roles exchanged start sound on =
          answered mac answers paths asks succeeds part (part ++ timeout ∷ []) start timeout.before sound on (λ x has. Has-front part (timeout ∷ []) x has) side path
          (λ x has. apart_at mac answers side (part ++ timeout ∷ []) x roles (Has-front part (timeout ∷ []) x has)) exchanged

      pub one_path : (first : WorldRecord H P) (s : Streams) (log : List (LoggedEvent P)) → OnePathIsSelected mac answers first s log
      one_path first s log last t run before part rest timeout A its path segment set plain last_is exchanged =
          let nominated : AreNominatedOn (at B last_is.here.check.sent.following) its = search last_is.here.nominated in
          let answer : IsExchangedOver mac A path part = search exchanged in
          let idle : request_at segment.plain.now (at A timeout.before) ≡ None = search segment.plain.serves_none in
          let lone : IsOnlyPair (at A timeout.following) path = search segment.only_pair in
          let unnumbered : numbers (at A timeout.following) ≡ false = search plain in
          both_selected B its (reversed path) before part rest timeout segment.plain.now first last segment.new (subst (λ xs. Follow mac answers first xs last) segment.split (follows mac answers first last s t 0 log run))
          (λ x has z. search (set x has z)) last_is.here.check nominated last_is.here.stays segment.plain.event segment.plain.done idle
          (λ x has. apart_at mac answers A (part ++ timeout ∷ []) x segment.controlled has) unnumbered last_is.last (replied A path part timeout segment.controlled answer) lone
      one_path first s log last t run before part rest timeout B its path segment set plain last_is exchanged =
          let nominated : AreNominatedOn (at A last_is.here.check.sent.following) its = search last_is.here.nominated in
          let answer : IsExchangedOver mac B path part = search exchanged in
          let idle : request_at segment.plain.now (at B timeout.before) ≡ None = search segment.plain.serves_none in
          let lone : IsOnlyPair (at B timeout.following) path = search segment.only_pair in
          let unnumbered : numbers (at B timeout.following) ≡ false = search plain in
          both_selected A its (reversed path) before part rest timeout segment.plain.now first last segment.new (subst (λ xs. Follow mac answers first xs last) segment.split (follows mac answers first last s t 0 log run))
          (λ x has z. search (set x has z)) last_is.here.check nominated last_is.here.stays segment.plain.event segment.plain.done idle
          (λ x has. apart_at mac answers B (part ++ timeout ∷ []) x segment.controlled has) unnumbered last_is.last (replied B path part timeout segment.controlled answer) lone

    pub leading_path : GreatestAreLast {H = H} {P = P} mac answers → (first : WorldRecord H P) (s : Streams) (log : List (LoggedEvent P)) → LeadingPathIsSelected mac answers first s log
    leading_path leads_last first s log last t run before part rest timeout A its path number segment set is leads =
        let nominated : AreNominatedOn (at B is.check.sent.following) its = search is.nominated in
        let idle : request_at segment.plain.now (at A timeout.before) ≡ None = search segment.plain.serves_none in
        let greatest : LeadsByNumber (at A timeout.following) number path = search leads in
        both_lead B its (reversed path) before part rest timeout segment.plain.now first last segment.new (subst (λ xs. Follow mac answers first xs last) segment.split (follows mac answers first last s t 0 log run))
        (λ x has z. search (set x has z)) is.check nominated is.stays segment.plain.event segment.plain.done idle leads_last number greatest
    leading_path leads_last first s log last t run before part rest timeout B its path number segment set is leads =
        let nominated : AreNominatedOn (at A is.check.sent.following) its = search is.nominated in
        let idle : request_at segment.plain.now (at B timeout.before) ≡ None = search segment.plain.serves_none in
        let greatest : LeadsByNumber (at B timeout.following) number path = search leads in
        both_lead A its (reversed path) before part rest timeout segment.plain.now first last segment.new (subst (λ xs. Follow mac answers first xs last) segment.split (follows mac answers first last s t 0 log run))
        (λ x has z. search (set x has z)) is.check nominated is.stays segment.plain.event segment.plain.done idle leads_last number greatest

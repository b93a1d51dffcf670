-- The paths that two agents select, if all their pairs are on one path. The preconditions that mutants/specifications changes
-- are read by tactics where they are used: if one of them is weaker, that goal stays unproved.
use Rattle.is_rules.specs.Steps as agent
use Rattle.is.specs.Mirrors.{SelectsThePath, KeepsTo, LonePathsMirror}
use Rattle.is.specs.World as world
use Rattle.is.proofs.Common.{[], ◌∙◌, ◌∷◌, ◌≡◌, ◌⊎◌, AgentRecord, Answer, at, Bool, CandidateRecord, Entry, Event, false, FreshIsSound}
use Rattle.is.proofs.Common.{Happens, Has, in_world, InFlightRecord, inl, inr, IsAnswered, IsValidOn, List, LoggedEvent, MatchBool, None}
use Rattle.is.proofs.Common.{Occurrence, occurrences_in, Option, other, Outcome, PairRecord, Path, path_of, PathTheorem, Persists, plain}
use Rattle.is.proofs.Common.{reversed, Side, slice_get, Some, source_of, Streams, subst, sym, TakesTurn, true, WorldRecord, ℕ}
use Rattle.is.proofs.ExternalViews.ViewsOfExecutions.{AreSound}
use Rattle.is.proofs.RolesAndChains.RolesAndChainsOfViews.{sound_new}
use Rattle.is.proofs.TwoAgentEvents.OwnExecutions.{turn_step, sound_on}
use Rattle.is.proofs.TwoAgentEvents.EventsOfSegments.{Follow, follows}

-- a pair on the path
abbrev HasOn : {H P : Type 0} → AgentRecord H P → Path → Type 0
HasOn a path = (p : PairRecord) × Has a.pairs p × (path_of a p ≡ path)

some_is : {X : Type 0} (x y : X) → Some x ≡ Some y → x ≡ y
some_is x y is = cc

plain_returns : {H P : Type 0} (x : Occurrence H P) (answer : Answer) (o : Option Side) (roles : List Bool) (side : Side) (path : Path) → x.entry.outcome ≡ plain answer o roles → SelectsThePath side path x → ⊥
plain_returns x answer o roles side path is (its, has) = elim (subst (λ (e : Outcome). Has e.entry.emitted.selected_paths (Some path)) is has) [
  | inl is ↦ (let none : None ≡ Some path = is in cc)
  | inr more ↦ elim more [
    | inl is ↦ (let none : None ≡ Some path = is in cc)
    | inr none ↦ none
  ]
]

module _ {H P : Type 0} (mac : H → List ℕ → List ℕ → List ℕ) (answers : P → CandidateRecord → ℕ → ℕ → Type 0) where
  -- a path that was valid, or is answered now, is that of a pair
  had : (a : AgentRecord H P) (c : agent.Call P) (e : Entry) (path : Path) → IsValidOn a path ⊎ IsAnswered mac a c e path → HasOn a path
  had a c e path (inl (p, has, valid, on)) = (p, has, on)
  had a c e path (inr (now, by, m, role, peer, brings, class_is, kept, known, signed, back)) = (kept.0, kept.2, kept.6)

  module _ (paths : PathTheorem {H = H} {P = P} mac answers) where
    turn_returns : (x : Occurrence H P) (s t : Streams) (side z : Side) (c : agent.Call P) (path one : Path) → AreSound x.before → KeepsTo side path x.before → SelectsThePath side one x
        → TakesTurn mac answers x.before s z c x.entry.outcome x.following t → one ≡ path
    turn_returns x s t side z c path one sound keeps (its, has) k =
        let own : z ≡ side = some_is z side (sym k.side_is ∙ its) in
        let lite : (at z x.before).lite ≡ false = subst (λ v. (at v x.before).lite ≡ false) (sym own) (search keeps) in
        let on : (p : PairRecord) → Has (at z x.before).pairs p → path_of (at z x.before) p ≡ path =
        subst (λ v. (p : PairRecord) → Has (at v x.before).pairs p → path_of (at v x.before) p ≡ path) (sym own) (search keeps) in
        let effect = (paths (at z x.before) (at z x.following) (source_of z s) k.left c x.entry.outcome.entry (sound z) k.given (turn_step mac answers x.before x.following s t z c x.entry.outcome k)).0 in
        let h = had (at z x.before) c x.entry.outcome.entry one (effect.selected_paths lite one has) in
        sym h.2 ∙ on h.0 h.1

    -- each path that the side selects is this one
    reports : (x : Occurrence H P) (s t : Streams) (v : Event P) (side : Side) (path one : Path) → AreSound x.before → KeepsTo side path x.before → SelectsThePath side one x
        → Happens mac answers x.before s v x.entry.outcome x.following t → one ≡ path
    reports x s t (world.Call z c) side path one sound keeps emitted h = by (in_world c) h where
      by : (b : Bool) → MatchBool b (TakesTurn mac answers x.before s z c x.entry.outcome x.following t) (Persists mac answers x.before s agent.NotInWorld (Some z) x.entry.outcome x.following t) → one ≡ path
      by true k = turn_returns x s t side z c path one sound keeps emitted k
      by false k = absurd (plain_returns x agent.NotInWorld (Some z) (world.roles_of x.before) side one k.2 emitted)
    reports x s t (world.Poll z) side path one sound keeps emitted k = absurd (plain_returns x k.answer (Some z) (world.roles_of x.following) side one k.emitted emitted)
    reports x s t (world.Deliver place now via) side path one sound keeps emitted h = by (slice_get x.before.network place) h where
      by : (o : Option InFlightRecord) → world.Delivers mac answers x.before s o now via x.entry.outcome x.following t → one ≡ path
      by None k = absurd (plain_returns x agent.NoSuchPacket None (world.roles_of x.before) side one k.2 emitted)
      by (Some l) k = turn_returns x s t side (other l.sender) (agent.ReceivePacket now via l.packet.contents) path one sound keeps emitted k
    reports x s t (world.Stray z now via bytes) side path one sound keeps emitted (answer, left, (same, kept, is)) =
        absurd (plain_returns x answer (Some z) (world.roles_of x.before) side one is emitted)

    returns_in : (xs : List (Occurrence H P)) (w last : WorldRecord H P) → Follow mac answers w xs last → AreSound w → (x : Occurrence H P) → Has xs x
        → (side : Side) (path one : Path) → KeepsTo side path x.before → SelectsThePath side one x → one ≡ path
    returns_in [] w last is sound x has side path one keeps emitted = absurd has
    returns_in (y ∷ rest) w last (from, s, t, happens, more) sound x (inl is) side path one keeps emitted =
        subst (λ (u : Occurrence H P). KeepsTo side path u.before → SelectsThePath side one u → one ≡ path) is
        (λ k m. reports y s t y.entry.event side path one (subst AreSound (sym from) sound) k m happens) keeps emitted
    returns_in (y ∷ rest) w last (from, s, t, happens, more) sound x (inr has) side path one keeps emitted =
        returns_in rest y.following last more (sound_on mac answers paths y.before y.following s t y.entry (subst AreSound (sym from) sound) happens) x has side path one keeps emitted

  pub lone_paths_mirror : PathTheorem {H = H} {P = P} mac answers → FreshIsSound H P → (first : WorldRecord H P) (s : Streams) (log : List (LoggedEvent P)) → LonePathsMirror mac answers first s log
  lone_paths_mirror paths new_sound first s log last t run x y side path one two new keep has_x has_y emitted_x emitted_y =
      let sound : AreSound first = λ z. sound_new new_sound (at z first) (new z) in
      let all = occurrences_in mac answers first s 0 log last t run in
      let follow = follows mac answers first last s t 0 log run in
      let here : KeepsTo side path x.before = search (keep x has_x) in
      let there : KeepsTo (other side) (reversed path) y.before = search (keep y has_y) in
      let a : one ≡ path = returns_in paths all first last follow sound x has_x side path one here emitted_x in
      let b : two ≡ reversed path = returns_in paths all first last follow sound y has_y (other side) (reversed path) two there emitted_y in
      cc

-- The events of a segment of a log, with the states before and after each: what one side does in them, and which of its calls may
-- remove a pair. The preconditions that mutants/specifications changes are read by tactics where they are used: if one of them is weaker, that
-- goal stays unproved.
use Rattle.is_rules.specs.Steps as agent
use Rattle.is.specs.World as world
use Rattle.is.proofs.Common.{[], ◌&&◌, ◌++◌, ◌+◌, ◌<◌, ◌∙◌, ◌∷◌, ◌≡◌, ◌≤◌, ◌⊎◌, A, acts, AgentRecord, Answer, ap, append_assoc, AreBetween}
use Rattle.is.proofs.Common.{arith, at, B, Bool, CandidateRecord, check_count, checks_of, checks_on, Delivered, Ends, EndsAlong, Entry}
use Rattle.is.proofs.Common.{Event, Execution, false, HandedCheck, Hands, Happens, Has, if◌then◌else◌, in_world, InFlightRecord, inl, inr}
use Rattle.is.proofs.Common.{is_check_on, is_in_round, is_of, is_reverse, IsReachedBy, IsReturned, KeepsAlong, KnowEachOther, List}
use Rattle.is.proofs.Common.{LoggedEvent, MakesInRound, MakesPolls, MatchBool, MayEndAt, None, Occurrence, occurrences_in, only, Option}
use Rattle.is.proofs.Common.{other, Outcome, Packet, Path, PathTheorem, Persists, polled_as, received_as, refl, Rejected, Side, slice_get}
use Rattle.is.proofs.Common.{Some, source_of, state_after, Step, Stream, Streams, subst, suc, sym, TakesTurn, true, via_out, WorldRecord}
use Rattle.is.proofs.Common.{WorldRun, ℕ}
use Rattle.is.proofs.ExternalViews.ViewsOfExecutions.{Has-front, Has-rear, AreSound}
use Rattle.is.proofs.TwoAgentEvents.OwnExecutions.{either_has, only_none, acts_between, acts_in_round, execution_on, turn_step}
use Rattle.is.proofs.TwoAgentEvents.OwnExecutions.{acts_execution, sound_on}
use Rattle.is.proofs.TwoAgentEvents.DeliveredPackets.{rewritten, delivered}

pub middle : {X : Type 0} (xs ys : List X) (x : X) → Has (xs ++ x ∷ ys) x
middle xs ys x = Has-rear xs (x ∷ ys) x (inl refl)

only_one : {X : Type 0} (side : Side) (x : X) → only side (other (other side)) (x ∷ []) ≡ x ∷ []
only_one A x = refl
only_one B x = refl

module _ {H P : Type 0} (mac : H → List ℕ → List ℕ → List ℕ) (answers : P → CandidateRecord → ℕ → ℕ → Type 0) where
  -- ---- one after another

  abbrev pub Follow : WorldRecord H P → List (Occurrence H P) → WorldRecord H P → Type 0
  Follow w [] last = last ≡ w
  Follow w (x ∷ rest) last =
      (x.before ≡ w) × (s t : Streams) × Happens mac answers x.before s x.entry.event x.entry.outcome x.following t × Follow x.following rest last

  pub follows : (w last : WorldRecord H P) (s t : Streams) (n : ℕ) (log : List (LoggedEvent P)) → (run : WorldRun mac answers w s n log last t) → Follow w (occurrences_in mac answers w s n log last t run) last
  follows w last s t n [] run = run.0
  follows w last s t n (x ∷ rest) (mid, u, number, happens, run) = (refl, s, u, happens, follows mid last u t (suc n) rest run)

  pub cut : (xs ys : List (Occurrence H P)) (w last : WorldRecord H P) → Follow w (xs ++ ys) last → (mid : WorldRecord H P) × Follow w xs mid × Follow mid ys last
  cut [] ys w last more = (w, refl, more)
  cut (x ∷ xs) ys w last (from, s, t, happens, more) = let k = cut xs ys x.following last more in (k.0, (from, s, t, happens, k.1), k.2)

  pub state_is : (xs : List (Occurrence H P)) (w last : WorldRecord H P) → Follow w xs last → state_after w xs ≡ last
  state_is [] w last is = sym is
  state_is (x ∷ rest) w last (from, s, t, happens, more) = state_is rest x.following last more

  -- one of them, what leads to it and what follows it
  pub record Met (w last : WorldRecord H P) (xs : List (Occurrence H P)) (x : Occurrence H P) (ys : List (Occurrence H P)) : Type 0 where
    pub led : Follow w xs x.before
    pub s : Streams
    pub t : Streams
    pub happens : Happens mac answers x.before s x.entry.event x.entry.outcome x.following t
    pub rest : Follow x.following ys last

  pub meet : (xs ys : List (Occurrence H P)) (x : Occurrence H P) (w last : WorldRecord H P) → Follow w (xs ++ x ∷ ys) last → Met w last xs x ys
  meet [] ys x w last (from, s, t, happens, more) = record { led = from; s = s; t = t; happens = happens; rest = more }
  meet (y ∷ xs) ys x w last (from, s, t, happens, more) =
      let k = meet xs ys x y.following last more in
      record { led = (from, s, t, happens, k.led); s = k.s; t = k.t; happens = k.happens; rest = k.rest }

  pub sound_along : PathTheorem {H = H} {P = P} mac answers → (xs : List (Occurrence H P)) (w last : WorldRecord H P) → Follow w xs last → AreSound w → AreSound last
  sound_along paths [] w last is sound = subst AreSound (sym is) sound
  sound_along paths (x ∷ rest) w last (from, s, t, happens, more) sound =
      sound_along paths rest x.following last more (sound_on mac answers paths x.before x.following s t x.entry (subst AreSound (sym from) sound) happens)

  -- ---- what a side does

  abbrev pub acts_at : Side → Occurrence H P → List (agent.Call P × Entry)
  acts_at side x = acts side x.before x.entry.event x.entry.outcome.entry

  abbrev pub own : Side → List (Occurrence H P) → List (agent.Call P × Entry)
  own side [] = []
  own side (x ∷ rest) = acts_at side x ++ own side rest

  pub own_execution : (side : Side) (xs : List (Occurrence H P)) (w last : WorldRecord H P) → Follow w xs last → Execution mac answers (own side xs) (at side w) (at side last)
  own_execution side [] w last is = ap (λ (v : WorldRecord H P). at side v) is
  own_execution side (x ∷ rest) w last (from, s, t, happens, more) =
      subst (λ (v : WorldRecord H P). Execution mac answers (own side (x ∷ rest)) (at side v) (at side last)) from
      (execution_on mac answers (acts_at side x) (own side rest) (at side x.before) (at side x.following) (at side last)
      (acts_execution mac answers x.before x.following s t side x.entry happens) (own_execution side rest x.following last more))

  -- a call of the side occurs in one of the events
  pub own_from : (side : Side) (xs : List (Occurrence H P)) (y : agent.Call P × Entry) → Has (own side xs) y → (x : Occurrence H P) × Has xs x × Has (acts_at side x) y
  own_from side [] y has = absurd has
  own_from side (x ∷ rest) y has = elim (either_has (acts_at side x) (own side rest) y has) [
    | inl k ↦ (x, inl refl, k)
    | inr k ↦ (let o = own_from side rest y k in (o.0, inr o.1, o.2))
  ]

  pub own_between : (side : Side) (xs : List (Occurrence H P)) → ((x : Occurrence H P) → Has xs x → MakesPolls side x.entry.event) → AreBetween (own side xs)
  own_between side xs polls y has = let o = own_from side xs y has in acts_between side o.0.before o.0.entry.event o.0.entry.outcome.entry (polls o.0 o.1) y o.2

  pub own_in_round : (modern : Bool) (side : Side) (xs : List (Occurrence H P)) → ((x : Occurrence H P) → Has xs x → MakesInRound modern side x.entry.event)
      → (y : agent.Call P × Entry) → Has (own side xs) y → is_in_round modern y.0 ≡ true
  own_in_round modern side xs calls y has = let o = own_from side xs y has in acts_in_round modern side o.0.before o.0.entry.event o.0.entry.outcome.entry (calls o.0 o.1) y o.2

  pub own_has : (side : Side) (xs : List (Occurrence H P)) (x : Occurrence H P) (y : agent.Call P × Entry) → Has xs x → Has (acts_at side x) y → Has (own side xs) y
  own_has side [] x y has there = absurd has
  own_has side (z ∷ rest) x y (inl is) there = Has-front (acts_at side z) (own side rest) y (subst (λ (u : Occurrence H P). Has (acts_at side u) y) (sym is) there)
  own_has side (z ∷ rest) x y (inr has) there = Has-rear (acts_at side z) (own side rest) y (own_has side rest x y has there)

  -- a packet that is delivered to a side is a call of it
  pub handed_is : (side : Side) (via : Path) (packet : Packet) (w : WorldRecord H P) (x : LoggedEvent P) → (h : Hands side via packet w x)
      → acts side w x.event x.outcome.entry ≡ (agent.ReceivePacket h.now via packet.contents, x.outcome.entry) ∷ []
  handed_is side via packet w x h =
      subst (λ (v : Event P). acts side w v x.outcome.entry ≡ (agent.ReceivePacket h.now via packet.contents, x.outcome.entry) ∷ []) (sym h.event)
      (subst (λ o. received_as {P = P} side h.now via x.outcome.entry o ≡ (agent.ReceivePacket h.now via packet.contents, x.outcome.entry) ∷ []) (sym h.sent)
      (only_one side (agent.ReceivePacket h.now via packet.contents, x.outcome.entry)))

  -- ---- a check

  pub record Checked (from : Side) (path over : Path) (all : List (Occurrence H P)) (last : WorldRecord H P) (k : HandedCheck mac from path over all) : Type 0 where
    pub s : Stream
    pub t : Stream
    pub sound_sent : AreSound k.sent.before
    pub step : Step mac answers (at from k.sent.before) s (agent.HandleTimeout k.now) k.sent.entry.outcome.entry (at from k.sent.following) t
    pub onward : Follow k.sent.following k.following last
    pub sound : AreSound k.comes.handed.before
    pub u : Streams
    pub v : Streams
    pub happens : Happens mac answers k.comes.handed.before u k.comes.handed.entry.event k.comes.handed.entry.outcome k.comes.handed.following v
    pub rest : Follow k.comes.handed.following k.comes.rest last
    pub know : KnowEachOther mac (at from k.sent.before) (at (other from) k.comes.handed.before)
    pub reached : IsReachedBy (at (other from) k.comes.handed.before) over

  pub checked : PathTheorem {H = H} {P = P} mac answers → (from : Side) (path over : Path) (all : List (Occurrence H P)) (w last : WorldRecord H P) (k : HandedCheck mac from path over all)
      → AreSound w → Follow w all last → Checked from path over all last k
  checked paths from path over all w last k sound follow =
      let one = meet k.before k.following k.sent w last (subst (λ xs. Follow w xs last) k.split follow) in
      let two = meet k.comes.between k.comes.rest k.comes.handed k.sent.following last (subst (λ xs. Follow k.sent.following xs last) k.comes.split one.rest) in
      let sound_sent = sound_along paths k.before w k.sent.before one.led sound in
      let turn : TakesTurn mac answers k.sent.before one.s from (agent.HandleTimeout k.now) k.sent.entry.outcome k.sent.following one.t =
      subst (λ (v : Event P). Happens mac answers k.sent.before one.s v k.sent.entry.outcome k.sent.following one.t) k.timeout one.happens in
      record {
        s = source_of from one.s;
        t = turn.left;
        sound_sent = sound_sent;
        step = turn_step mac answers k.sent.before k.sent.following one.s one.t from (agent.HandleTimeout k.now) k.sent.entry.outcome turn;
        onward = one.rest;
        sound = sound_along paths k.comes.between k.sent.following k.comes.handed.before two.led
            (sound_on mac answers paths k.sent.before k.sent.following one.s one.t k.sent.entry sound_sent one.happens);
        u = two.s;
        v = two.t;
        happens = two.happens;
        rest = two.rest;
        know = search k.know;
        reached = search k.reached;
      }

  pub sent_in : (from : Side) (path over : Path) (all : List (Occurrence H P)) → (k : HandedCheck mac from path over all) → Has all k.sent
  sent_in from path over all k = subst (λ xs. Has xs k.sent) (sym k.split) (middle k.before k.following k.sent)

  -- what follows the check is in the segment
  pub after_in : (from : Side) (path over : Path) (all : List (Occurrence H P)) → (k : HandedCheck mac from path over all) → (x : Occurrence H P) → Has k.following x → Has all x
  after_in from path over all k x has = subst (λ xs. Has xs x) (sym k.split) (Has-rear k.before (k.sent ∷ k.following) x (inr has))

  -- so are the delivery and what follows it
  pub following_in : (from : Side) (path over : Path) (all : List (Occurrence H P)) → (k : HandedCheck mac from path over all) → (x : Occurrence H P) → Has (k.comes.handed ∷ k.comes.rest) x → Has all x
  following_in from path over all k x has =
      after_in from path over all k x (subst (λ xs. Has xs x) (sym k.comes.split) (Has-rear k.comes.between (k.comes.handed ∷ k.comes.rest) x has))

  -- ---- checks that are counted

  counts_both : (path : Path) (xs ys : List (agent.Call P × Entry)) → checks_on path (xs ++ ys) ≡ checks_on path xs + checks_on path ys
  counts_both path [] ys = omega arith
  counts_both path (x ∷ xs) ys = by (is_check_on path x.1.emitted.issued) (counts_both path xs ys) where
    by : (b : Bool) → checks_on path (xs ++ ys) ≡ checks_on path xs + checks_on path ys
        → (if b then suc (checks_on path (xs ++ ys)) else checks_on path (xs ++ ys)) ≡ (if b then suc (checks_on path xs) else checks_on path xs) + checks_on path ys
    by true is = omega (arith, is)
    by false is = is

  counts_turn : (side z : Side) (path : Path) (c : agent.Call P) (e : Outcome) → e.side ≡ Some z → checks_on path (only side z ((c, e.entry) ∷ [])) ≤ check_count side path e
  counts_turn side z path c e is = subst (λ o. checks_on path (only side z ((c, e.entry) ∷ [])) ≤ (if is_of side o && is_check_on path e.entry.emitted.issued then 1 else 0)) (sym is) (by side z) where
    one : (b : Bool) → (if b then suc 0 else 0) ≤ (if b then 1 else 0)
    one true = omega arith
    one false = omega arith

    by : (x y : Side) → checks_on path (only x y ((c, e.entry) ∷ [])) ≤ (if is_of x (Some y) && is_check_on path e.entry.emitted.issued then 1 else 0)
    by A A = one (is_check_on path e.entry.emitted.issued)
    by B B = one (is_check_on path e.entry.emitted.issued)
    by A B = omega arith
    by B A = omega arith

  counts_none : (side z : Side) (path : Path) (n : ℕ) → checks_on {P = P} path (only side z []) ≤ n
  counts_none side z path n = subst (λ xs. checks_on {P = P} path xs ≤ n) (sym (only_none side z)) (omega arith)

  counts_polled : (side z : Side) (path : Path) (answer : Answer) (ps : List Packet) (n : ℕ) → checks_on {P = P} path (only side z (polled_as answer ps)) ≤ n
  counts_polled side z path (Rejected error) ps n = counts_none side z path n
  counts_polled A A path _ ps n = omega arith
  counts_polled B B path _ ps n = omega arith
  counts_polled A B path _ ps n = omega arith
  counts_polled B A path _ ps n = omega arith

  counts_at : (side : Side) (path : Path) (w w' : WorldRecord H P) (s t : Streams) (v : Event P) (e : Outcome) → Happens mac answers w s v e w' t
      → checks_on path (acts side w v e.entry) ≤ check_count side path e
  counts_at side path w w' s t (world.Call z c) e h = by (in_world c) h where
    by : (b : Bool) → MatchBool b (TakesTurn mac answers w s z c e w' t) (Persists mac answers w s agent.NotInWorld (Some z) e w' t)
        → checks_on {P = P} path (only side z (if b then (c, e.entry) ∷ [] else [])) ≤ check_count side path e
    by true k = counts_turn side z path c e k.side_is
    by false k = counts_none side z path (check_count side path e)
  counts_at side path w w' s t (world.Poll z) e k = counts_polled side z path e.entry.answer (at side w).packets (check_count side path e)
  counts_at side path w w' s t (world.Deliver place now via) e h = by (slice_get w.network place) h where
    by : (o : Option InFlightRecord) → world.Delivers mac answers w s o now via e w' t → checks_on {P = P} path (received_as side now via e.entry o) ≤ check_count side path e
    by None k = omega arith
    by (Some l) k = counts_turn side (other l.sender) path (agent.ReceivePacket now via l.packet.contents) e k.side_is
  counts_at side path w w' s t (world.Stray z now via bytes) e h = omega arith

  counts : (side : Side) (path : Path) (xs : List (Occurrence H P)) (w last : WorldRecord H P) → Follow w xs last → checks_on path (own side xs) ≤ checks_of side path xs
  counts side path [] w last is = omega arith
  counts side path (x ∷ rest) w last (from, s, t, happens, more) =
      let here = counts_at side path x.before x.following s t x.entry.event x.entry.outcome happens in
      let later = counts side path rest x.following last more in
      subst (λ n. n ≤ check_count side path x.entry.outcome + checks_of side path rest) (sym (counts_both path (acts_at side x) (own side rest))) (omega (arith, here, later))

  -- ---- per-agent executions that may end a pair after something occurred

  module _ (side : Side) (path : Path) (whole : List (Occurrence H P)) where
    abbrev pub Found : Type 0
    Found = (x : Occurrence H P) × Has whole x × MayEndAt answers side path x

    abbrev pub Owned : List (agent.Call P × Entry) → AgentRecord H P → AgentRecord H P → Type 0
    Owned xs a b = (execution : Execution mac answers xs a b) × (EndsAlong mac answers xs a b execution path → Found)

    pub owned_on : (xs ys : List (agent.Call P × Entry)) (a b c : AgentRecord H P) → Owned xs a b → Owned ys b c → Owned (xs ++ ys) a c
    owned_on [] ys a b c (is, ends) more = subst (λ (z : AgentRecord H P). Owned ys z c) is more
    owned_on (x ∷ xs) ys a b c ((mid, s, t, based, step, on), ends) more =
        let k = owned_on xs ys mid b c (on, λ e. ends (inr e)) more in
        ((mid, s, t, based, step, k.0), λ e. elim e [ inl here ↦ ends (inl here) | inr later ↦ k.1 later ])

    ends_only : (z s : Side) (xs : List (agent.Call P × Entry)) (a b : AgentRecord H P) → (execution : Execution mac answers (only z s xs) a b) → EndsAlong mac answers (only z s xs) a b execution path
        → (s ≡ z) × ((c : Execution mac answers xs a b) × EndsAlong mac answers xs a b c path)
    ends_only A A xs a b execution ends = (refl, (execution, ends))
    ends_only B B xs a b execution ends = (refl, (execution, ends))
    ends_only A B xs a b execution ends = absurd ends
    ends_only B A xs a b execution ends = absurd ends

    ends_polled : (answer : Answer) (ps : List Packet) (a b : AgentRecord H P) → (execution : Execution mac answers (polled_as answer ps) a b) → EndsAlong mac answers (polled_as answer ps) a b execution path → ⊥
    ends_polled (Rejected error) ps a b execution ends = ends
    ends_polled _ ps a b execution (inl (p, has, joins, none)) = none
    ends_polled _ ps a b execution (inr none) = none

    pub ends_at : (w : WorldRecord H P) (v : Event P) (e : Entry) (b : AgentRecord H P) → (execution : Execution mac answers (acts side w v e) (at side w) b)
        → EndsAlong mac answers (acts side w v e) (at side w) b execution path → (c : agent.Call P) × (v ≡ world.Call side c) × Ends answers (at side w) c e path
    ends_at w (world.Call s c) e b execution ends = by (in_world c) execution ends where
      by : (within : Bool) (on : Execution mac answers (only side s (if within then (c, e) ∷ [] else [])) (at side w) b)
          → EndsAlong mac answers (only side s (if within then (c, e) ∷ [] else [])) (at side w) b on path → (d : agent.Call P) × (world.Call s c ≡ world.Call side d) × Ends answers (at side w) d e path
      by true on there = let k = ends_only side s ((c, e) ∷ []) (at side w) b on there in elim k.1.1 [
        | inl here ↦ (c, ap (λ z. world.Call z c) k.0, here)
        | inr none ↦ absurd none
      ]
      by false on there = absurd (ends_only side s [] (at side w) b on there).1.1
    ends_at w (world.Poll s) e b execution ends =
        let k = ends_only side s (polled_as e.answer (at side w).packets) (at side w) b execution ends in absurd (ends_polled e.answer (at side w).packets (at side w) b k.1.0 k.1.1)
    ends_at w (world.Deliver place now via) e b execution ends = by (slice_get w.network place) execution ends where
      by : (o : Option InFlightRecord) (on : Execution mac answers (received_as side now via e o) (at side w) b)
          → EndsAlong mac answers (received_as side now via e o) (at side w) b on path → (d : agent.Call P) × (world.Deliver place now via ≡ world.Call side d) × Ends answers (at side w) d e path
      by None on there = absurd there
      by (Some l) on there = elim (ends_only side (other l.sender) ((agent.ReceivePacket now via l.packet.contents, e) ∷ []) (at side w) b on there).1.1 [
        | inl here ↦ absurd here.3
        | inr none ↦ absurd none
      ]
    ends_at w (world.Stray s now via bytes) e b execution ends = absurd ends

    pub act_owned : (x : Occurrence H P) (s t : Streams) → Happens mac answers x.before s x.entry.event x.entry.outcome x.following t → Has whole x → Owned (acts_at side x) (at side x.before) (at side x.following)
    act_owned x s t happens has =
        let execution = acts_execution mac answers x.before x.following s t side x.entry happens in
        (execution, λ e. (x, has, ends_at x.before x.entry.event x.entry.outcome.entry (at side x.following) execution e))

    pub owned : (xs : List (Occurrence H P)) (w last : WorldRecord H P) → Follow w xs last → ((x : Occurrence H P) → Has xs x → Has whole x) → Owned (own side xs) (at side w) (at side last)
    owned [] w last is among = (ap (λ (v : WorldRecord H P). at side v) is, λ none. absurd none)
    owned (x ∷ rest) w last (from, s, t, happens, more) among =
        subst (λ (v : WorldRecord H P). Owned (own side (x ∷ rest)) (at side v) (at side last)) from
        (owned_on (acts_at side x) (own side rest) (at side x.before) (at side x.following) (at side last) (act_owned x s t happens (among x (inl refl)))
        (owned rest x.following last more (λ y has. among y (inr has))))

    -- an execution of the side in which it stores so many checks of a pair; a call in it that may remove a pair of the path is found
    abbrev pub Kept : ℕ → List (agent.Call P × Entry) → AgentRecord H P → AgentRecord H P → Type 0
    Kept limit xs a b =
        (execution : Execution mac answers xs a b) × (EndsAlong mac answers xs a b execution path → Found) × KeepsAlong mac answers limit xs a b execution

    pub kept_on : (limit : ℕ) (xs ys : List (agent.Call P × Entry)) (a b c : AgentRecord H P) → Kept limit xs a b → Kept limit ys b c → Kept limit (xs ++ ys) a c
    kept_on limit [] ys a b c (is, ends, keeps) more = subst (λ (z : AgentRecord H P). Kept limit ys z c) is more
    kept_on limit (x ∷ xs) ys a b c ((mid, s, t, based, step, on), ends, (least, keeps)) more =
        let k = kept_on limit xs ys mid b c (on, (λ e. ends (inr e)), keeps) more in
        ((mid, s, t, based, step, k.0), (λ e. elim e [ inl here ↦ ends (inl here) | inr later ↦ k.1 later ]), (least, k.2))

    keeps_one : (limit : ℕ) (side' z : Side) (x : agent.Call P × Entry) (a b : AgentRecord H P) → limit ≤ a.timing.max_retransmits → (execution : Execution mac answers (only side' z (x ∷ [])) a b)
        → KeepsAlong mac answers limit (only side' z (x ∷ [])) a b execution
    keeps_one limit A A x a b least execution = (least, tt)
    keeps_one limit B B x a b least execution = (least, tt)
    keeps_one limit A B x a b least execution = tt
    keeps_one limit B A x a b least execution = tt

    keeps_none : (limit : ℕ) (side' z : Side) (a b : AgentRecord H P) → (execution : Execution mac answers (only side' z []) a b) → KeepsAlong mac answers limit (only side' z []) a b execution
    keeps_none limit A A a b execution = tt
    keeps_none limit B B a b execution = tt
    keeps_none limit A B a b execution = tt
    keeps_none limit B A a b execution = tt

    keeps_polled : (limit : ℕ) (side' z : Side) (answer : Answer) (ps : List Packet) (a b : AgentRecord H P) → limit ≤ a.timing.max_retransmits
        → (execution : Execution mac answers (only side' z (polled_as answer ps)) a b) → KeepsAlong mac answers limit (only side' z (polled_as answer ps)) a b execution
    keeps_polled limit side' z (Rejected error) ps a b least execution = keeps_none limit side' z a b execution
    keeps_polled limit A A _ ps a b least execution = (least, tt)
    keeps_polled limit B B _ ps a b least execution = (least, tt)
    keeps_polled limit A B _ ps a b least execution = tt
    keeps_polled limit B A _ ps a b least execution = tt

    keeps_at : (limit : ℕ) (w : WorldRecord H P) (v : Event P) (e : Entry) (b : AgentRecord H P) → limit ≤ (at side w).timing.max_retransmits → (execution : Execution mac answers (acts side w v e) (at side w) b)
        → KeepsAlong mac answers limit (acts side w v e) (at side w) b execution
    keeps_at limit w (world.Call z c) e b least execution = by (in_world c) execution where
      by : (within : Bool) (on : Execution mac answers (only side z (if within then (c, e) ∷ [] else [])) (at side w) b)
          → KeepsAlong mac answers limit (only side z (if within then (c, e) ∷ [] else [])) (at side w) b on
      by true on = keeps_one limit side z (c, e) (at side w) b least on
      by false on = keeps_none limit side z (at side w) b on
    keeps_at limit w (world.Poll z) e b least execution = keeps_polled limit side z e.answer (at side w).packets (at side w) b least execution
    keeps_at limit w (world.Deliver place now via) e b least execution = by (slice_get w.network place) execution where
      by : (o : Option InFlightRecord) (on : Execution mac answers (received_as side now via e o) (at side w) b) → KeepsAlong mac answers limit (received_as side now via e o) (at side w) b on
      by None on = tt
      by (Some l) on = keeps_one limit side (other l.sender) (agent.ReceivePacket now via l.packet.contents, e) (at side w) b least on
    keeps_at limit w (world.Stray z now via bytes) e b least execution = tt

    pub kept : (limit : ℕ) (xs : List (Occurrence H P)) (w last : WorldRecord H P) → Follow w xs last → ((x : Occurrence H P) → Has xs x → Has whole x)
        → ((x : Occurrence H P) → Has xs x → limit ≤ (at side x.before).timing.max_retransmits) → Kept limit (own side xs) (at side w) (at side last)
    kept limit [] w last is among least = (ap (λ (v : WorldRecord H P). at side v) is, (λ none. absurd none), tt)
    kept limit (x ∷ rest) w last (from, s, t, happens, more) among least =
        let one = act_owned x s t happens (among x (inl refl)) in
        subst (λ (v : WorldRecord H P). Kept limit (own side (x ∷ rest)) (at side v) (at side last)) from
        (kept_on limit (acts_at side x) (own side rest) (at side x.before) (at side x.following) (at side last)
        (one.0, one.1, keeps_at limit x.before x.entry.event x.entry.outcome.entry (at side x.following) (least x (inl refl)) one.0)
        (kept limit rest x.following last more (λ y has. among y (inr has)) (λ y has. least y (inr has))))

    -- ---- a response that comes while its check is pending

    -- what happens from the check to the response
    abbrev pub awaited : (over : Path) (all : List (Occurrence H P)) (k : HandedCheck mac side path over all) (reply : Packet) → IsReturned mac side path over all k reply → List (Occurrence H P)
    awaited over all k reply r = k.comes.between ++ k.comes.handed ∷ r.comes.between

    pub record Awaited (over : Path) (all : List (Occurrence H P)) (last : WorldRecord H P) (k : HandedCheck mac side path over all) (reply : Packet) (r : IsReturned mac side path over all k reply) : Type 0 where
      pub met : Met k.sent.following last (awaited over all k reply r) r.comes.handed r.comes.rest
      pub inside : Has all r.comes.handed
      pub execution : Kept r.pending.limit (own side (awaited over all k reply r)) (at side k.sent.following) (at side r.comes.handed.before)
      pub few : checks_on (via_out k.check) (own side (awaited over all k reply r)) < r.pending.limit
      pub know : KnowEachOther mac (at side r.comes.handed.before) (at (other side) k.comes.handed.before)
      pub back : is_reverse r.via path ≡ true
      pub goes : is_reverse r.via (via_out k.check) ≡ true
      pub comes : Delivered mac answers (rewritten r.via reply) r.comes.hands.now (at side r.comes.handed.before) r.comes.handed.entry.outcome.entry (at side r.comes.handed.following)

    pub awaits : (over : Path) (all : List (Occurrence H P)) (last : WorldRecord H P) (k : HandedCheck mac side path over all) (reply : Packet) (r : IsReturned mac side path over all k reply)
        → Follow k.sent.following k.following last → ((x : Occurrence H P) → Has (awaited over all k reply r) x → Has whole x) → Awaited over all last k reply r
    awaits over all last k reply r onward among = record {
      met = m;
      inside = after_in side path over all k again (subst (λ xs. Has xs again) (sym split) (middle between r.comes.rest again));
      execution = kept r.pending.limit between k.sent.following again.before m.led among (λ x has. search (r.pending.kept x has));
      few = subst (λ p. checks_on p (own side between) < r.pending.limit) (sym k.on)
          (let most = counts side path between k.sent.following again.before m.led in let less = r.pending.few in omega (arith, most, less));
      know = search r.know;
      back = back;
      goes = subst (λ p. is_reverse r.via p ≡ true) (sym k.on) back;
      comes = delivered mac answers side r.via reply again.before again.following m.s m.t again.entry r.comes.hands m.happens;
    } where
      again : Occurrence H P
      again = r.comes.handed

      between : List (Occurrence H P)
      between = awaited over all k reply r

      split : k.following ≡ between ++ again ∷ r.comes.rest
      split = k.comes.split ∙ (ap (λ xs. k.comes.between ++ k.comes.handed ∷ xs) r.comes.split ∙ sym (append_assoc k.comes.between (k.comes.handed ∷ r.comes.between) (again ∷ r.comes.rest)))

      m : Met k.sent.following last between again r.comes.rest
      m = meet between r.comes.rest again k.sent.following last (subst (λ xs. Follow k.sent.following xs last) split onward)

      back : is_reverse r.via path ≡ true
      back = search r.back

    -- a call in between that may end a pair of the path is found
    pub removed : (over : Path) (all : List (Occurrence H P)) (last : WorldRecord H P) (k : HandedCheck mac side path over all) (reply : Packet) (r : IsReturned mac side path over all k reply)
        (z : Awaited over all last k reply r)
        → EndsAlong mac answers (own side (awaited over all k reply r)) (at side k.sent.following) (at side r.comes.handed.before) z.execution.0 (via_out k.check) → Found
    removed over all last k reply r z ends =
        z.execution.1 (subst (λ p. EndsAlong mac answers (own side (awaited over all k reply r)) (at side k.sent.following) (at side r.comes.handed.before) z.execution.0 p) k.on ends)

    -- the awaited ones are in the segment
    pub awaited_in : (over : Path) (all : List (Occurrence H P)) (k : HandedCheck mac side path over all) (reply : Packet) (r : IsReturned mac side path over all k reply) (x : Occurrence H P)
        → Has (awaited over all k reply r) x → Has all x
    awaited_in over all k reply r x has = after_in side path over all k x (subst (λ xs. Has xs x) (sym k.comes.split) (longer (either_has k.comes.between (k.comes.handed ∷ r.comes.between) x has))) where
      longer : Has k.comes.between x ⊎ Has (k.comes.handed ∷ r.comes.between) x → Has (k.comes.between ++ k.comes.handed ∷ k.comes.rest) x
      longer (inl h) = Has-front k.comes.between (k.comes.handed ∷ k.comes.rest) x h
      longer (inr (inl is)) = Has-rear k.comes.between (k.comes.handed ∷ k.comes.rest) x (inl is)
      longer (inr (inr h)) =
          Has-rear k.comes.between (k.comes.handed ∷ k.comes.rest) x (inr (subst (λ xs. Has xs x) (sym r.comes.split) (Has-front r.comes.between (r.comes.handed ∷ r.comes.rest) x h)))

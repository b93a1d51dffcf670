-- What one agent of a two-agent network model does is a per-agent execution.
use Rattle.is_theorems.specs.Rounds.{is_between, is_poll}
use Rattle.is_rules.specs.Steps as agent
use Rattle.is.specs.World as world
use Rattle.is.proofs.Common.{[], ◌++◌, ◌∙◌, ◌∷◌, ◌≡◌, ◌⊎◌, A, acts, AgentRecord, Answer, ap, AreBetween, at, B, Bool, CandidateRecord}
use Rattle.is.proofs.Common.{ControlsAlong, Entry, Event, Execution, false, first_packet, Happens, Has, if◌then◌else◌, in_world}
use Rattle.is.proofs.Common.{InFlightRecord, inl, inr, is_in_round, is_some, IsPolled, IsSound, last_of, List, LoggedEvent, MakesInRound}
use Rattle.is.proofs.Common.{MakesPolls, MatchBool, None, only, Option, other, Outcome, Packet, Path, PathTheorem, Persists, Polled}
use Rattle.is.proofs.Common.{polled_as, PolledInto, PollsTransmit, quiet, received_as, refl, Rejected, role_at, role_in, roles_of}
use Rattle.is.proofs.Common.{SelectsPath, Side, slice_get, Some, source_of, Step, Stream, Streams, subst, sym, TakesTurn, true, WorldRecord}
use Rattle.is.proofs.Common.{ℕ}
use Rattle.is.proofs.ExternalViews.ViewsOfExecutions.{AreSound}

-- ---- lists

pub either_has : {X : Type 0} (xs ys : List X) (x : X) → Has (xs ++ ys) x → Has xs x ⊎ Has ys x
either_has [] ys x has = inr has
either_has (y ∷ xs) ys x (inl e) = inl (inl e)
either_has (y ∷ xs) ys x (inr h) = elim (either_has xs ys x h) [ inl k ↦ inl (inr k) | inr k ↦ inr k ]

-- ---- sides

pub only_none : {X : Type 0} (side s : Side) → only {X = X} side s [] ≡ []
only_none A A = refl
only_none A B = refl
only_none B A = refl
only_none B B = refl

pub only_own : {X : Type 0} (side s : Side) (xs : List X) (y : X) → Has (only side s xs) y → Has xs y × (s ≡ side)
only_own A A xs y has = (has, refl)
only_own B B xs y has = (has, refl)
only_own A B xs y has = absurd has
only_own B A xs y has = absurd has

pub twice : (side : Side) → other (other side) ≡ side
twice A = refl
twice B = refl

-- ---- calls

poll_between : {P : Type 0} (c : agent.Call P) → is_poll c ≡ true → is_between c ≡ true
poll_between (agent.ReceivePacket now path bytes) is = refl
poll_between _ is = is

-- of a side's calls only those that pass the test are made
abbrev Passes : {P : Type 0} → (agent.Call P → Bool) → Side → Event P → Type 0
Passes test side (world.Call s c) = s ≡ side → test c ≡ true
Passes test side _ = Unit {0}

polls_pass : {P : Type 0} (side : Side) (v : Event P) → MakesPolls side v → Passes is_between side v
polls_pass side (world.Call s c) polls = λ is. poll_between c (polls is)
polls_pass side (world.Poll s) polls = tt
polls_pass side (world.Deliver place now path) polls = tt
polls_pass side (world.Stray s now path bytes) polls = tt

in_round_passes : {P : Type 0} (modern : Bool) (side : Side) (v : Event P) → MakesInRound modern side v → Passes (λ c. is_in_round modern c) side v
in_round_passes modern side (world.Call s c) calls = calls
in_round_passes modern side (world.Poll s) calls = tt
in_round_passes modern side (world.Deliver place now path) calls = tt
in_round_passes modern side (world.Stray s now path bytes) calls = tt

-- ---- what a side does at an event

poll_emitted : {P : Type 0} (answer : Answer) (ps : List Packet) (y : agent.Call P × Entry) → Has (polled_as answer ps) y → is_some (last_of y.1.emitted.selected_paths) ≡ true → ⊥
poll_emitted (Rejected error) ps y has emitted = has
poll_emitted _ ps y (inl is) emitted = let no : false ≡ true = ap (λ (z : agent.Call _ × Entry). is_some (last_of z.1.emitted.selected_paths)) is ∙ emitted in cc
poll_emitted _ ps y (inr none) emitted = none

polled_passes : {P : Type 0} (test : agent.Call P → Bool) → test agent.PollTransmit ≡ true → (answer : Answer) (ps : List Packet) (y : agent.Call P × Entry) → Has (polled_as answer ps) y → test y.0 ≡ true
polled_passes test polls (Rejected error) ps y has = absurd has
polled_passes test polls _ ps y (inl is) = ap (λ (z : agent.Call _ × Entry). test z.0) (sym is) ∙ polls
polled_passes test polls _ ps y (inr none) = absurd none

module _ {H P : Type 0} where
  acts_pass : (test : agent.Call P → Bool) → ((now : ℕ) (via : Path) (bytes : List ℕ) → test (agent.ReceivePacket now via bytes) ≡ true) → test agent.PollTransmit ≡ true
      → (side : Side) (w : WorldRecord H P) (v : Event P) (e : Entry) → Passes test side v → (y : agent.Call P × Entry) → Has (acts side w v e) y → test y.0 ≡ true
  acts_pass test packets polled side w (world.Call s c) e passes y has = by (in_world c) has where
    by : (b : Bool) → Has (only side s (if b then (c, e) ∷ [] else [])) y → test y.0 ≡ true
    by true k = let o = only_own side s ((c, e) ∷ []) y k in elim o.0 [
      | inl is ↦ ap (λ (z : agent.Call P × Entry). test z.0) (sym is) ∙ passes o.1
      | inr none ↦ absurd none
    ]
    by false k = absurd (only_own side s [] y k).0
  acts_pass test packets polled side w (world.Poll s) e passes y has =
      polled_passes test polled e.answer (at side w).packets y (only_own side s (polled_as e.answer (at side w).packets) y has).0
  acts_pass test packets polled side w (world.Deliver place now path) e passes y has = by (slice_get w.network place) has where
    by : (o : Option InFlightRecord) → Has (received_as side now path e o) y → test y.0 ≡ true
    by None k = absurd k
    by (Some l) k = elim (only_own side (other l.sender) ((agent.ReceivePacket now path l.packet.contents, e) ∷ []) y k).0 [
      | inl is ↦ ap (λ (z : agent.Call P × Entry). test z.0) (sym is) ∙ packets now path l.packet.contents
      | inr none ↦ absurd none
    ]
  acts_pass test packets polled side w (world.Stray s now path bytes) e passes y has = absurd has

  pub acts_between : (side : Side) (w : WorldRecord H P) (v : Event P) (e : Entry) → MakesPolls side v → AreBetween (acts side w v e)
  acts_between side w v e polls = acts_pass is_between (λ now via bytes. refl) refl side w v e (polls_pass side v polls)

  pub acts_in_round : (modern : Bool) (side : Side) (w : WorldRecord H P) (v : Event P) (e : Entry) → MakesInRound modern side v → (y : agent.Call P × Entry) → Has (acts side w v e) y → is_in_round modern y.0 ≡ true
  acts_in_round modern side w v e calls = acts_pass (λ c. is_in_round modern c) (λ now via bytes. refl) refl side w v e (in_round_passes modern side v calls)

  module _ (mac : H → List ℕ → List ℕ → List ℕ) (answers : P → CandidateRecord → ℕ → ℕ → Type 0) where
    -- ---- per-agent executions

    pub execution_on : (xs ys : List (agent.Call P × Entry)) (a b c : AgentRecord H P) → Execution mac answers xs a b → Execution mac answers ys b c → Execution mac answers (xs ++ ys) a c
    execution_on [] ys a b c is more = subst (λ (z : AgentRecord H P). Execution mac answers ys z c) is more
    execution_on (x ∷ xs) ys a b c (mid, s, t, based, step, on) more = (mid, s, t, based, step, execution_on xs ys mid b c on more)

    -- controlling after each call
    abbrev pub Steered : List (agent.Call P × Entry) → AgentRecord H P → AgentRecord H P → Type 0
    Steered xs a b = (execution : Execution mac answers xs a b) × ControlsAlong mac answers xs a b execution

    pub steered_on : (xs ys : List (agent.Call P × Entry)) (a b c : AgentRecord H P) → Steered xs a b → Steered ys b c → Steered (xs ++ ys) a c
    steered_on [] ys a b c (is, along) more = subst (λ (z : AgentRecord H P). Steered ys z c) is more
    steered_on (x ∷ xs) ys a b c ((mid, s, t, based, step, on), (role, along)) more =
        let k = steered_on xs ys mid b c (on, along) more in ((mid, s, t, based, step, k.0), (role, k.1))

    pub sound_execution : PathTheorem {H = H} {P = P} mac answers → (xs : List (agent.Call P × Entry)) (a b : AgentRecord H P) → IsSound a → Execution mac answers xs a b → IsSound b
    sound_execution paths [] a b sound is = subst (λ (z : AgentRecord H P). IsSound z) (sym is) sound
    sound_execution paths (x ∷ xs) a b sound (mid, s, t, based, step, more) = sound_execution paths xs mid b (paths a mid s t x.0 x.1 sound based step).1 more

    -- ---- one event

    -- a per-agent execution, and one in the controlling role if the agent is controlling after it
    abbrev Acts : List (agent.Call P × Entry) → AgentRecord H P → AgentRecord H P → Type 0
    Acts xs a b = (execution : Execution mac answers xs a b) × (b.controlling ≡ true → ControlsAlong mac answers xs a b execution)

    pub turn_new : (w w' : WorldRecord H P) (s t : Streams) (side : Side) (c : agent.Call P) (e : Outcome) → (k : TakesTurn mac answers w s side c e w' t) → at side w' ≡ k.new
    turn_new w w' s t A c e k = ap (λ (v : WorldRecord H P). at A v) k.world
    turn_new w w' s t B c e k = ap (λ (v : WorldRecord H P). at B v) k.world

    pub turn_other : (w w' : WorldRecord H P) (s t : Streams) (side : Side) (c : agent.Call P) (e : Outcome) → TakesTurn mac answers w s side c e w' t → at (other side) w' ≡ at (other side) w
    turn_other w w' s t A c e k = ap (λ (v : WorldRecord H P). at B v) k.world
    turn_other w w' s t B c e k = ap (λ (v : WorldRecord H P). at A v) k.world

    pub turn_step : (w w' : WorldRecord H P) (s t : Streams) (side : Side) (c : agent.Call P) (e : Outcome) → (k : TakesTurn mac answers w s side c e w' t)
        → Step mac answers (at side w) (source_of side s) c e.entry (at side w') k.left
    turn_step w w' s t side c e k = subst (λ (a : AgentRecord H P). Step mac answers (at side w) (source_of side s) c e.entry a k.left) (sym (turn_new w w' s t side c e k)) k.step

    one : (w w' : WorldRecord H P) (s t : Streams) (side : Side) (c : agent.Call P) (e : Outcome) → TakesTurn mac answers w s side c e w' t → Acts ((c, e.entry) ∷ []) (at side w) (at side w')
    one w w' s t side c e k = ((at side w', source_of side s, k.left, k.given, turn_step w w' s t side c e k, refl), λ role. (role, tt))

    turn : (w w' : WorldRecord H P) (s t : Streams) (side z : Side) (c : agent.Call P) (e : Outcome) → TakesTurn mac answers w s z c e w' t
        → Acts (only side z ((c, e.entry) ∷ [])) (at side w) (at side w')
    turn w w' s t A A c e k = one w w' s t A c e k
    turn w w' s t B B c e k = one w w' s t B c e k
    turn w w' s t A B c e k = (turn_other w w' s t B c e k, λ role. tt)
    turn w w' s t B A c e k = (turn_other w w' s t A c e k, λ role. tt)

    still : (w w' : WorldRecord H P) (side : Side) → w' ≡ w → Acts [] (at side w) (at side w')
    still w w' side is = (ap (λ (v : WorldRecord H P). at side v) is, λ role. tt)

    first_is : (given : Option Packet) (old new : List Packet) → IsPolled old given new → first_packet old ≡ given
    first_is None old new h = ap first_packet h.0
    first_is (Some p) old new h = ap first_packet h

    hands_out : (old new : AgentRecord H P) (given : Option Packet) (s : Stream) → PollsTransmit old given new
        → Acts ((agent.PollTransmit, quiet (Polled (first_packet old.packets))) ∷ []) old new
    hands_out old new given s polled =
        ((new, s, s, tt, (given, ap (λ o. quiet (Polled o)) (first_is given old.packets new.packets polled.0), polled, refl), refl), λ role. (role, tt))

    polls_so : (old new : AgentRecord H P) (network multiset' : List InFlightRecord) (side : Side) (answer : Answer) (s : Stream) → PolledInto old network side answer new multiset'
        → Acts (polled_as answer old.packets) old new
    polls_so old new network multiset' side answer s (inl (is, same, kept)) = subst (λ a. Acts (polled_as a old.packets) old new) (sym is) (same, λ role. tt)
    polls_so old new network multiset' side answer s (inr (inl (is, polled, kept))) = subst (λ a. Acts (polled_as a old.packets) old new) (sym is) (hands_out old new None s polled)
    polls_so old new network multiset' side answer s (inr (inr (p, polled, is, grown))) = subst (λ a. Acts (polled_as a old.packets) old new) (sym is) (hands_out old new (Some p) s polled)

    poll : (w w' : WorldRecord H P) (s t : Streams) (side z : Side) (e : Outcome) → world.Polls mac answers w s z e w' t → Acts (only side z (polled_as e.entry.answer (at side w).packets)) (at side w) (at side w')
    poll w w' s t A A e k =
        subst (λ (a : AgentRecord H P). Acts (polled_as e.entry.answer w.a.packets) w.a a) (sym (ap (λ (v : WorldRecord H P). at A v) k.world))
        (subst (λ x. Acts (polled_as x w.a.packets) w.a k.new) (sym (ap (λ (o : Outcome). o.entry.answer) k.emitted)) (polls_so w.a k.new w.network k.network A k.answer s.a k.polled))
    poll w w' s t B B e k =
        subst (λ (a : AgentRecord H P). Acts (polled_as e.entry.answer w.b.packets) w.b a) (sym (ap (λ (v : WorldRecord H P). at B v) k.world))
        (subst (λ x. Acts (polled_as x w.b.packets) w.b k.new) (sym (ap (λ (o : Outcome). o.entry.answer) k.emitted)) (polls_so w.b k.new w.network k.network B k.answer s.b k.polled))
    poll w w' s t A B e k = (ap (λ (v : WorldRecord H P). at A v) k.world, λ role. tt)
    poll w w' s t B A e k = (ap (λ (v : WorldRecord H P). at B v) k.world, λ role. tt)

    act : (w w' : WorldRecord H P) (s t : Streams) (side : Side) (v : Event P) (e : Outcome) → Happens mac answers w s v e w' t → Acts (acts side w v e.entry) (at side w) (at side w')
    act w w' s t side (world.Call z c) e h = by (in_world c) h where
      by : (b : Bool) → MatchBool b (TakesTurn mac answers w s z c e w' t) (Persists mac answers w s agent.NotInWorld (Some z) e w' t)
          → Acts (only side z (if b then (c, e.entry) ∷ [] else [])) (at side w) (at side w')
      by true k = turn w w' s t side z c e k
      by false k = subst (λ xs. Acts xs (at side w) (at side w')) (sym (only_none side z)) (still w w' side k.0)
    act w w' s t side (world.Poll z) e k = poll w w' s t side z e k
    act w w' s t side (world.Deliver place now path) e h = by (slice_get w.network place) h where
      by : (o : Option InFlightRecord) → world.Delivers mac answers w s o now path e w' t → Acts (received_as side now path e.entry o) (at side w) (at side w')
      by None k = still w w' side k.0
      by (Some l) k = turn w w' s t side (other l.sender) (agent.ReceivePacket now path l.packet.contents) e k
    act w w' s t side (world.Stray z now path bytes) e (answer, left, (same, kept, is)) = still w w' side same

    -- ---- what the entry records

    turn_emitted : (w w' : WorldRecord H P) (s t : Streams) (side z : Side) (c : agent.Call P) (x : LoggedEvent P) (y : agent.Call P × Entry) → TakesTurn mac answers w s z c x.outcome w' t
        → Has (only side z ((c, x.outcome.entry) ∷ [])) y → is_some (last_of y.1.emitted.selected_paths) ≡ true → SelectsPath side x
    turn_emitted w w' s t side z c x y k has emitted = let o = only_own side z ((c, x.outcome.entry) ∷ []) y has in elim o.0 [
      | inl is ↦ (k.side_is ∙ ap Some o.1, ap (λ (u : agent.Call P × Entry). is_some (last_of u.1.emitted.selected_paths)) is ∙ emitted)
      | inr none ↦ absurd none
    ]

    pub acts_emitted : (w w' : WorldRecord H P) (s t : Streams) (side : Side) (x : LoggedEvent P) (y : agent.Call P × Entry) (v : Event P) → Happens mac answers w s v x.outcome w' t
        → Has (acts side w v x.outcome.entry) y → is_some (last_of y.1.emitted.selected_paths) ≡ true → SelectsPath side x
    acts_emitted w w' s t side x y (world.Call z c) h has emitted = by (in_world c) h has where
      by : (b : Bool) → MatchBool b (TakesTurn mac answers w s z c x.outcome w' t) (Persists mac answers w s agent.NotInWorld (Some z) x.outcome w' t)
          → Has (only side z (if b then (c, x.outcome.entry) ∷ [] else [])) y → SelectsPath side x
      by true k there = turn_emitted w w' s t side z c x y k there emitted
      by false k there = absurd (only_own side z [] y there).0
    acts_emitted w w' s t side x y (world.Poll z) k has emitted =
        absurd (poll_emitted x.outcome.entry.answer (at side w).packets y (only_own side z (polled_as x.outcome.entry.answer (at side w).packets) y has).0 emitted)
    acts_emitted w w' s t side x y (world.Deliver place now path) h has emitted = by (slice_get w.network place) h has where
      by : (o : Option InFlightRecord) → world.Delivers mac answers w s o now path x.outcome w' t → Has (received_as side now path x.outcome.entry o) y → SelectsPath side x
      by None k there = absurd there
      by (Some l) k there = turn_emitted w w' s t side (other l.sender) (agent.ReceivePacket now path l.packet.contents) x y k there emitted
    acts_emitted w w' s t side x y (world.Stray z now path bytes) h has emitted = absurd has

    roles_emitted : (w w' : WorldRecord H P) (s t : Streams) (v : Event P) (e : Outcome) → Happens mac answers w s v e w' t → e.controlling ≡ roles_of w'
    roles_emitted w w' s t (world.Call z c) e h = by (in_world c) h where
      by : (b : Bool) → MatchBool b (TakesTurn mac answers w s z c e w' t) (Persists mac answers w s agent.NotInWorld (Some z) e w' t) → e.controlling ≡ roles_of w'
      by true k = k.roles
      by false k = ap (λ (o : Outcome). o.controlling) k.2 ∙ ap (λ (u : WorldRecord H P). roles_of u) (sym k.0)
    roles_emitted w w' s t (world.Poll z) e k = ap (λ (o : Outcome). o.controlling) k.emitted
    roles_emitted w w' s t (world.Deliver place now path) e h = by (slice_get w.network place) h where
      by : (o : Option InFlightRecord) → world.Delivers mac answers w s o now path e w' t → e.controlling ≡ roles_of w'
      by None k = ap (λ (o : Outcome). o.controlling) k.2 ∙ ap (λ (u : WorldRecord H P). roles_of u) (sym k.0)
      by (Some l) k = k.roles
    roles_emitted w w' s t (world.Stray z now path bytes) e (answer, left, (same, kept, is)) =
        ap (λ (o : Outcome). o.controlling) is ∙ ap (λ (u : WorldRecord H P). roles_of u) (sym same)

    role_is : (side : Side) (w : WorldRecord H P) → role_at side (roles_of w) ≡ (at side w).controlling
    role_is A w = refl
    role_is B w = refl

    pub role_after : (w w' : WorldRecord H P) (s t : Streams) (side : Side) (x : LoggedEvent P) (role : Bool) → Happens mac answers w s x.event x.outcome w' t → role_in side x ≡ role → (at side w').controlling ≡ role
    role_after w w' s t side x role h is = sym (role_is side w') ∙ (ap (λ rs. role_at side rs) (sym (roles_emitted w w' s t x.event x.outcome h)) ∙ is)

    -- ---- an execution

    pub sound_on : PathTheorem {H = H} {P = P} mac answers → (w w' : WorldRecord H P) (s t : Streams) (x : LoggedEvent P) → AreSound w → Happens mac answers w s x.event x.outcome w' t → AreSound w'
    sound_on paths w w' s t x sound h z = sound_execution paths (acts z w x.event x.outcome.entry) (at z w) (at z w') (sound z) (act w w' s t z x.event x.outcome h).0

    pub acts_execution : (w w' : WorldRecord H P) (s t : Streams) (side : Side) (x : LoggedEvent P) → Happens mac answers w s x.event x.outcome w' t
        → Execution mac answers (acts side w x.event x.outcome.entry) (at side w) (at side w')
    acts_execution w w' s t side x h = (act w w' s t side x.event x.outcome h).0

    pub acts_steered : (w w' : WorldRecord H P) (s t : Streams) (side : Side) (x : LoggedEvent P) → Happens mac answers w s x.event x.outcome w' t → (at side w').controlling ≡ true
        → Steered (acts side w x.event x.outcome.entry) (at side w) (at side w')
    acts_steered w w' s t side x h role = let a = act w w' s t side x.event x.outcome h in (a.0, a.1 role)

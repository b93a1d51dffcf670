-- What one of two agents does is an execution of its own, whose log is its own log.
use Rattle.is_theorems.specs.Logs as agent_log
use Rattle.is_rules.specs.Steps as agent
use Rattle.is.specs.World as world
use Rattle.is.proofs.Common.{[], ◌++◌, ◌∷◌, ◌≡◌, A, acts, AgentRecord, Answer, at, B, BeforeEach, Bool, CandidateRecord, Entry, Event}
use Rattle.is.proofs.Common.{Execution, false, Has, if◌then◌else◌, in_world, InFlightRecord, inl, inr, List, map, None, Occurrence, only}
use Rattle.is.proofs.Common.{Option, other, own_at, own_log, Packet, Path, polled_as, received_as, refl, Rejected, SharedRun, Side}
use Rattle.is.proofs.Common.{slice_get, Some, subst, sym, true, WorldRecord, ℕ}
use Rattle.is.proofs.TwoAgentEvents.EventsOfSegments.{Follow}
use Rattle.is.proofs.TwoAgentEvents.OwnExecutions.{acts_execution}

-- ---- one event: at most one call

abbrev pub AtMostOne : {X : Type 0} → List X → Type 0
AtMostOne [] = Unit {0}
AtMostOne (x ∷ []) = Unit {0}
AtMostOne (x ∷ y ∷ rest) = ⊥

of_one_side : {X : Type 0} (side s : Side) (xs : List X) → AtMostOne xs → AtMostOne (only side s xs)
of_one_side A A xs one = one
of_one_side B B xs one = one
of_one_side A B xs one = tt
of_one_side B A xs one = tt

called_once : {P : Type 0} (c : agent.Call P) (e : Entry) (made : Bool) → AtMostOne {X = agent.Call P × Entry} (if made then (c, e) ∷ [] else [])
called_once c e true = tt
called_once c e false = tt

polled_once : (P : Type 0) (answer : Answer) (ps : List Packet) → AtMostOne (polled_as {P = P} answer ps)
polled_once P (Rejected error) ps = tt
polled_once P _ ps = tt

received_once : (P : Type 0) (side : Side) (now : ℕ) (path : Path) (e : Entry) (given : Option InFlightRecord) → AtMostOne (received_as {P = P} side now path e given)
received_once P side now path e None = tt
received_once P side now path e (Some l) = of_one_side side (other l.sender) ((agent.ReceivePacket now path l.packet.contents, e) ∷ []) tt

pub acts_once : {H P : Type 0} (side : Side) (w : WorldRecord H P) (v : Event P) (e : Entry) → AtMostOne (acts side w v e)
acts_once side w (world.Call s c) e = of_one_side side s (if in_world c then (c, e) ∷ [] else []) (called_once c e (in_world c))
acts_once side w (world.Poll s) e = of_one_side side s (polled_as e.answer (at side w).packets) (polled_once _ e.answer (at side w).packets)
acts_once side w (world.Deliver place now path) e = received_once _ side now path e (slice_get w.network place)
acts_once side w (world.Stray s now path bytes) e = tt

-- ---- executions

module _ {H P : Type 0} (mac : H → List ℕ → List ℕ → List ℕ) (answers : P → CandidateRecord → ℕ → ℕ → Type 0) where
  abbrev numbered : ℕ → List (agent.Call P × Entry) → List (agent_log.Logged P)
  numbered n xs = map (λ (y : agent.Call P × Entry). record { number = n; call = y.0; entry = y.1 }) xs

  -- an execution of the agent, in which the property holds of each entry and the state before it
  module _ (Fits : AgentRecord H P → agent_log.Logged P → Type 0) (first : AgentRecord H P) where
    abbrev pub Led : List (agent_log.Logged P) → AgentRecord H P → Type 0
    Led log last = (run : SharedRun mac answers first log last) × BeforeEach mac answers Fits first log last run

    longer : (n : ℕ) (xs : List (agent.Call P × Entry)) (log : List (agent_log.Logged P)) (old new : AgentRecord H P) → AtMostOne xs → Execution mac answers xs old new
        → ((y : agent_log.Logged P) → Has (numbered n xs) y → Fits old y) → Led log old → Led (numbered n xs ++ log) new
    longer n [] log old new one is fits led = subst (λ (a : AgentRecord H P). Led log a) (sym is) led
    longer n (x ∷ []) log old new one (mid, s, t, based, step, is) fits led =
        subst (λ (a : AgentRecord H P). Led (numbered n (x ∷ []) ++ log) a) (sym is)
        ((old, s, t, led.0, based, step), (fits (record { number = n; call = x.0; entry = x.1 }) (inl refl), led.1))
    longer n (x ∷ y ∷ rest) log old new one execution fits led = absurd one

    pub along : (side : Side) (xs : List (Occurrence H P)) (w last : WorldRecord H P) (log : List (agent_log.Logged P)) → Follow mac answers w xs last
        → ((z : Occurrence H P) → Has xs z → (y : agent_log.Logged P) → Has (own_at side z) y → Fits (at side z.before) y)
        → Led log (at side w) → Led (own_log side log xs) (at side last)
    along side [] w last log is fits led = subst (λ (v : WorldRecord H P). Led log (at side v)) (sym is) led
    along side (x ∷ rest) w last log (from, s, t, happens, more) fits led =
        along side rest x.following last (own_at side x ++ log) more (λ z has. fits z (inr has))
        (longer x.entry.number (acts side x.before x.entry.event x.entry.outcome.entry) log (at side x.before) (at side x.following)
        (acts_once side x.before x.entry.event x.entry.outcome.entry) (acts_execution mac answers x.before x.following s t side x.entry happens)
        (fits x (inl refl)) (subst (λ (v : WorldRecord H P). Led log (at side v)) (sym from) led))

  pub ends : (xs : List (Occurrence H P)) (x : Occurrence H P) (w last : WorldRecord H P) → Follow mac answers w (xs ++ x ∷ []) last → last ≡ x.following
  ends [] x w last (from, s, t, happens, is) = is
  ends (y ∷ xs) x w last (from, s, t, happens, more) = ends xs x y.following last more

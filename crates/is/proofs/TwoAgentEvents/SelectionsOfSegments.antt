-- The calls of a side that select a path: in a segment of the log of two agents there are as many as in its own log, or more.
use Rattle.is_rules.specs.Owed.{one_if}
use Rattle.is_rules.specs.Steps as agent
use Rattle.is.specs.World as world
use Rattle.is.proofs.Common.{[], ◌&&◌, ◌*◌, ◌+◌, ◌∷◌, ◌≡◌, ◌≤◌, A, acts, AgentRecord, Answer, arith, at, B, Bool, CandidateRecord}
use Rattle.is.proofs.Common.{checks_for, cond, count_by, Entry, Event, false, first_packet, Happens, if◌then◌else◌, in_world}
use Rattle.is.proofs.Common.{InFlightRecord, inl, inr, is_modern, is_of, length, List, MatchBool, nominations_ahead, None, numbers}
use Rattle.is.proofs.Common.{Occurrence, only, Option, other, Outcome, Packet, Persists, Polled, polled_as, quiet, received_as, refl}
use Rattle.is.proofs.Common.{Rejected, selections_of, selects, Side, slice_get, Some, Streams, subst, Suffices, sum_by-append, sum_by-cons}
use Rattle.is.proofs.Common.{sym, TakesTurn, true, WorldRecord, ℕ}
use Rattle.is.proofs.TwoAgentEvents.EventsOfSegments.{Follow, acts_at, own}
use Rattle.is.proofs.TwoAgentEvents.OwnExecutions.{only_none}

-- ---- as numbers

-- more rounds than so many suffice
checks-fewer : (ahead : Bool) (n m k : ℕ) → n ≤ m → checks_for ahead m ≤ k → checks_for ahead n ≤ k
checks-fewer ahead n m k le = by ahead where
  by : (b : Bool) → (if b then 2 * m else m) ≤ k → (if b then 2 * n else n) ≤ k
  by true h = omega (arith, le, h)
  by false h = omega (arith, le, h)

pub ahead-fewer : {H P : Type 0} (a : AgentRecord H P) (n m : ℕ) → n ≤ m → nominations_ahead a n ≤ nominations_ahead a m
ahead-fewer a n m le = by (numbers a) where
  by : (c : Bool) → (if c then one_if a.nomination_due + n else 0) ≤ (if c then one_if a.nomination_due + m else 0)
  by true = omega (arith, le)
  by false = omega arith

-- if fewer nominations may be sent at once
pub suffice-fewer : {H P : Type 0} (by now : ℕ) (first second last : AgentRecord H P) (later all_most all_more most more : ℕ) → all_most ≤ all_more → most ≤ more
    → Suffices by now first second last later all_more more → Suffices by now first second last later all_most most
suffice-fewer by now first second last later all_most all_more most more all_le le (inl (late, enough)) =
    let k : checks_for (is_modern first.timing) (2 * length first.pairs + last.next_number + all_most) ≤ later + 2 + checks_for (is_modern first.timing) first.next_number =
    checks-fewer (is_modern first.timing) (2 * length first.pairs + last.next_number + all_most) (2 * length first.pairs + last.next_number + all_more) (later + 2 + checks_for (is_modern first.timing) first.next_number)
    (omega (arith, all_le)) (omega (arith, enough)) in
    inl (omega (arith, late), omega (arith, k))
suffice-fewer by now first second last later all_most all_more most more all_le le (inr (inl few)) = inr (inl (omega (arith, few)))
suffice-fewer by now first second last later all_most all_more most more all_le le (inr (inr enough)) =
    let k : checks_for (is_modern second.timing) (2 * length second.pairs + last.next_number + most) ≤ later + 1 + checks_for (is_modern second.timing) second.next_number =
    checks-fewer (is_modern second.timing) (2 * length second.pairs + last.next_number + most) (2 * length second.pairs + last.next_number + more) (later + 1 + checks_for (is_modern second.timing) second.next_number)
    (omega (arith, le)) (omega (arith, enough)) in
    inr (inr (omega (arith, k)))

pub one-counted : (b c : Bool) → c ≡ true → one_if b ≤ cond (c && b) 1 0
one-counted true true is = omega arith
one-counted false true is = omega arith
one-counted b false is = absurd (cc)

pub is-own : (side : Side) → is_of side (Some side) ≡ true
is-own A = refl
is-own B = refl

-- whether the call of an entry is the side's, and selects a path
abbrev choice_at : Side → Outcome → ℕ
choice_at side e = cond (is_of side e.side && selects e.entry) 1 0

module _ (P : Type 0) where
  -- how many of a side's own calls select a path
  abbrev pub choices : List (agent.Call P × Entry) → ℕ
  choices xs = count_by (λ (x : agent.Call P × Entry). selects x.1) xs

  one-choice : (c : agent.Call P) (e : Entry) → choices ((c, e) ∷ []) ≡ cond (selects e) 1 0
  one-choice c e = let k : choices ((c, e) ∷ []) ≡ cond (selects e) 1 0 + 0 = sum_by-cons (λ (x : agent.Call P × Entry). cond (selects x.1) 1 0) (c, e) [] in omega (arith, k)

  chosen-turn : (side z : Side) (c : agent.Call P) (e : Outcome) → e.side ≡ Some z → choices (only side z ((c, e.entry) ∷ [])) ≤ choice_at side e
  chosen-turn side z c e is = subst (λ o. choices (only side z ((c, e.entry) ∷ [])) ≤ cond (is_of side o && selects e.entry) 1 0) (sym is) (by side z) where
    by : (x y : Side) → choices (only x y ((c, e.entry) ∷ [])) ≤ cond (is_of x (Some y) && selects e.entry) 1 0
    by A A = let k : choices ((c, e.entry) ∷ []) ≡ cond (selects e.entry) 1 0 = one-choice c e.entry in omega (arith, k)
    by B B = let k : choices ((c, e.entry) ∷ []) ≡ cond (selects e.entry) 1 0 = one-choice c e.entry in omega (arith, k)
    by A B = omega arith
    by B A = omega arith

  none-chosen : (side z : Side) (n : ℕ) → choices (only side z []) ≤ n
  none-chosen side z n = subst (λ (xs : List (agent.Call P × Entry)). choices xs ≤ n) (sym (only_none side z)) (omega arith)

  poll-chosen : (ps : List Packet) (n : ℕ) → choices ((agent.PollTransmit, quiet (Polled (first_packet ps))) ∷ []) ≤ n
  poll-chosen ps n = let k : choices ((agent.PollTransmit, quiet (Polled (first_packet ps))) ∷ []) ≡ 0 = one-choice agent.PollTransmit (quiet (Polled (first_packet ps))) in omega (arith, k)

  polls-chosen : (side z : Side) (answer : Answer) (ps : List Packet) (n : ℕ) → choices (only side z (polled_as answer ps)) ≤ n
  polls-chosen side z (Rejected error) ps n = none-chosen side z n
  polls-chosen A A _ ps n = poll-chosen ps n
  polls-chosen B B _ ps n = poll-chosen ps n
  polls-chosen A B _ ps n = omega arith
  polls-chosen B A _ ps n = omega arith

module _ {H P : Type 0} (mac : H → List ℕ → List ℕ → List ℕ) (answers : P → CandidateRecord → ℕ → ℕ → Type 0) where
  chosen-at : (side : Side) (w w' : WorldRecord H P) (s t : Streams) (v : Event P) (e : Outcome) → Happens mac answers w s v e w' t → choices P (acts side w v e.entry) ≤ choice_at side e
  chosen-at side w w' s t (world.Call z c) e h = by (in_world c) h where
    by : (b : Bool) → MatchBool b (TakesTurn mac answers w s z c e w' t) (Persists mac answers w s agent.NotInWorld (Some z) e w' t)
        → choices P (only side z (if b then (c, e.entry) ∷ [] else [])) ≤ choice_at side e
    by true k = chosen-turn P side z c e k.side_is
    by false k = none-chosen P side z (choice_at side e)
  chosen-at side w w' s t (world.Poll z) e k = polls-chosen P side z e.entry.answer (at side w).packets (choice_at side e)
  chosen-at side w w' s t (world.Deliver place now via) e h = by (slice_get w.network place) h where
    by : (o : Option InFlightRecord) → world.Delivers mac answers w s o now via e w' t → choices P (received_as side now via e.entry o) ≤ choice_at side e
    by None k = omega arith
    by (Some l) k = chosen-turn P side (other l.sender) (agent.ReceivePacket now via l.packet.contents) e k.side_is
  chosen-at side w w' s t (world.Stray z now via bytes) e h = omega arith

  pub chosen-along : (side : Side) (xs : List (Occurrence H P)) (w last : WorldRecord H P) → Follow mac answers w xs last → choices P (own mac answers side xs) ≤ selections_of side xs
  chosen-along side [] w last is = omega arith
  chosen-along side (x ∷ rest) w last (from, s, t, happens, more) =
      let here = chosen-at side x.before x.following s t x.entry.event x.entry.outcome happens in
      let later = chosen-along side rest x.following last more in
      let all = sum_by-cons (λ (y : Occurrence H P). cond (is_of side y.entry.outcome.side && selects y.entry.outcome.entry) 1 0) x rest in
      let both = sum_by-append (λ (y : agent.Call P × Entry). cond (selects y.1) 1 0) (acts_at mac answers side x) (own mac answers side rest) in
      omega (arith, here, later, all, both)

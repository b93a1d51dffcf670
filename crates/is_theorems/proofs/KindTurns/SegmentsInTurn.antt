-- Segments of a log in which kinds take turns, and how many of their `handle_timeout` calls have a property.
use Rattle.is_theorems.proofs.Common.{[], ◌&&◌, ◌++◌, ◌+◌, ◌∷◌, ◌≡◌, ◌⊎◌, AgentRecord, ap, are_kinds_in_turn, arith, AtTimeoutsIn, Bool}
use Rattle.is_theorems.proofs.Common.{CandidateRecord, Emitted, false, Has, HasPathIn, inl, inr, is_connected, is_modern, is_some, kind_in}
use Rattle.is_theorems.proofs.Common.{List, Logged, None, not, OfTimeoutsIn, Option, PairRecord, refl, RunsOn, Some, Stream, subst, suc}
use Rattle.is_theorems.proofs.Common.{TakesTurns, true, zero, ℕ}
use Rattle.is_theorems.proofs.EarlierChecks.ChecksOfOtherPairs.{Measure}
use Rattle.is_theorems.proofs.ExecutionLogs.SegmentsAsExecutions.{split-run}

-- A `handle_timeout` call at which kinds take turns, since no path is selected by its end. The other pairs of the kind count.
pub record InTurn {H P : Type 0} (w : Measure) (kinds : List ℕ) (kind number : ℕ) (old new : AgentRecord H P) : Type 0 where
  pub turns : are_kinds_in_turn new ≡ true
  pub unselected : new.selected_pair ≡ None
  pub listed : (q : PairRecord) → Has old.pairs q → Has kinds (kind_in old q)
  pub keeps : (q : PairRecord) → Has old.pairs q → q.number ≡ number → kind_in old q ≡ kind
  pub counted : (q : PairRecord) → Has old.pairs q → kind_in old q ≡ kind → (q.number ≡ number → ⊥) → w.skips q.number ≡ false
  pub counts : (w.both ≡ true) ⊎ (is_modern old.timing ≡ true)

both-hold : (a b : Bool) → a ≡ true → b ≡ false → (a && not b) ≡ true
both-hold true true on off = absurd (cc)
both-hold true false on off = refl
both-hold false b on off = absurd (cc)

-- unless the agent has a path, they do
pub in-turn : {H P : Type 0} (w : Measure) (kinds : List ℕ) (kind number : ℕ) (old new : AgentRecord H P)
    → ((q : PairRecord) → Has old.pairs q → kind_in old q ≡ kind → (q.number ≡ number → ⊥) → w.skips q.number ≡ false) → (w.both ≡ true) ⊎ (is_modern old.timing ≡ true)
    → is_connected new.state ≡ false → new.selected_pair ≡ None → TakesTurns kinds kind number old new → InTurn w kinds kind number old new
in-turn w kinds kind number old new counted counts off none t = record {
  turns = both-hold (is_modern new.timing) (is_connected new.state) (search (t.modern)) off;
  unselected = none;
  listed = λ q has. search (t.listed q has);
  keeps = λ q has is. search (t.keeps q has is);
  counted = counted;
  counts = counts;
}

module _ {H P : Type 0} (mac : H → List ℕ → List ℕ → List ℕ) (answers : P → CandidateRecord → ℕ → ℕ → Type 0) where
  module _ (Holds Then : AgentRecord H P → AgentRecord H P → Type 0) (into : (old new : AgentRecord H P) → is_connected new.state ≡ false → new.selected_pair ≡ None → Holds old new → Then old new) where
    pub has-path-or : (before : List (Logged P)) (start last : AgentRecord H P) (s t : Stream) (part : List (Logged P)) (run : RunsOn mac answers before start s part last t)
        → AtTimeoutsIn mac answers Holds before start s part last t run
        → HasPathIn mac answers before start s part last t run ⊎ AtTimeoutsIn mac answers Then before start s part last t run
    has-path-or before start last s t [] run turns = inr tt
    has-path-or before start last s t (x ∷ part) (mid, v, run, number, given, step) (here, older) =
        elim (has-path-or before start mid s v part run older) [
          | inl path ↦ inl (inr path)
          | inr all ↦ by-state (is_connected last.state) last.selected_pair refl refl all
        ] where
          by-state : (b : Bool) (o : Option ℕ) → is_connected last.state ≡ b → last.selected_pair ≡ o → AtTimeoutsIn mac answers Then before start s part mid v run
              → HasPathIn mac answers before start s (x ∷ part) last t (mid, v, run, number, given, step) ⊎ AtTimeoutsIn mac answers Then before start s (x ∷ part) last t (mid, v, run, number, given, step)
          by-state true o on selected all = inl (inl (inr (search (on))))
          by-state false (Some k) off selected all = (let some : is_some last.selected_pair ≡ true = ap is_some selected in inl (inl (inl (search (some)))))
          by-state false None off none all = inr ((λ now called. into mid last off none (here now called)), all)

  -- the older part of a segment
  pub split-timeouts : (Holds : AgentRecord H P → AgentRecord H P → Type 0) (before : List (Logged P)) (start last : AgentRecord H P) (u t : Stream) (xs older : List (Logged P))
      (run : RunsOn mac answers before start u (xs ++ older) last t) → AtTimeoutsIn mac answers Holds before start u (xs ++ older) last t run
      → AtTimeoutsIn mac answers Holds before start u older (split-run mac answers before start last u t xs older run).0 (split-run mac answers before start last u t xs older run).1
      (split-run mac answers before start last u t xs older run).2
  split-timeouts Holds before start last u t [] older run turns = turns
  split-timeouts Holds before start last u t (x ∷ xs) older (m, v, run, number, given, step) turns = split-timeouts Holds before start m u v xs older run turns.1

  module _ (Holds : ℕ → AgentRecord H P → Emitted → Type 0) where
    pub split-counted : (c : ℕ) (before : List (Logged P)) (start last : AgentRecord H P) (u t : Stream) (xs older : List (Logged P)) (run : RunsOn mac answers before start u (xs ++ older) last t)
        → OfTimeoutsIn mac answers Holds c before start u older (split-run mac answers before start last u t xs older run).0 (split-run mac answers before start last u t xs older run).1
        (split-run mac answers before start last u t xs older run).2
        → OfTimeoutsIn mac answers Holds c before start u (xs ++ older) last t run
    split-counted c before start last u t [] older run counted = counted
    split-counted c before start last u t (x ∷ xs) older (m, v, run, number, given, step) counted = inl (split-counted c before start m u v xs older run counted)

    -- more calls are at least as many
    one-less : (c : ℕ) (before : List (Logged P)) (start last : AgentRecord H P) (u t : Stream) (xs : List (Logged P)) (run : RunsOn mac answers before start u xs last t)
        → OfTimeoutsIn mac answers Holds (suc c) before start u xs last t run → OfTimeoutsIn mac answers Holds c before start u xs last t run
    one-less c before start last u t [] run none = absurd (no-more none) where
      no-more : suc c ≡ 0 → ⊥
      no-more h = omega (arith, h)
    one-less c before start last u t (x ∷ xs) (m, v, run, number, given, step) (inl counted) = inl (one-less c before start m u v xs run counted)
    one-less c before start last u t (x ∷ xs) (m, v, run, number, given, step) (inr (now, k, is, called, here, counted)) =
        inl (subst (λ i. OfTimeoutsIn mac answers Holds i before start u xs m v run) (same k (omega (arith, is))) counted) where
          same : (k : ℕ) → suc c ≡ suc k → k ≡ c
          same k h = omega (arith, h)

    pub fewer-counted : (extra m : ℕ) (before : List (Logged P)) (start last : AgentRecord H P) (u t : Stream) (xs : List (Logged P)) (run : RunsOn mac answers before start u xs last t)
        → OfTimeoutsIn mac answers Holds (extra + m) before start u xs last t run → OfTimeoutsIn mac answers Holds m before start u xs last t run
    fewer-counted zero m before start last u t xs run counted = subst (λ i. OfTimeoutsIn mac answers Holds i before start u xs last t run) (none m) counted where
      none : (m : ℕ) → 0 + m ≡ m
      none m = omega arith
    fewer-counted (suc extra) m before start last u t xs run counted =
        fewer-counted extra m before start last u t xs run (one-less (extra + m) before start last u t xs run
        (subst (λ i. OfTimeoutsIn mac answers Holds i before start u xs last t run) (following extra m) counted)) where
          following : (e m : ℕ) → suc e + m ≡ suc (e + m)
          following e m = omega arith

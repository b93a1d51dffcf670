-- A segment of a log, newest entry first, is an execution, oldest call first: its rounds, and what ends a pair in them.
use Rattle.is_theorems.proofs.Common.{[], ◌++◌, ◌+◌, ◌∙◌, ◌∷◌, ◌≡◌, ◌⊎◌, AgentRecord, ap, append_assoc, arith, Bool, Call, CandidateRecord}
use Rattle.is_theorems.proofs.Common.{Ends, EndsAlong, EndsAmong, entries_of, Entry, Execution, ExecutionRound, HandleTimeout, Has, inl}
use Rattle.is_theorems.proofs.Common.{inr, is_in_round, IsEndedIn, length, List, Logged, LoggedRound, PassRounds, Path, refl, Run, RunsOn}
use Rattle.is_theorems.proofs.Common.{SetRenomination, Step, Stream, subst, sym, true, ℕ}

module _ {P : Type 0} where
  -- ---- the calls of a segment, with others after them

  abbrev pub calls_onto : List (Logged P) → List (Call P × Entry) → List (Call P × Entry)
  calls_onto [] more = more
  calls_onto (x ∷ older) more = calls_onto older ((x.call, x.entry) ∷ more)

  pub onto_has : (xs : List (Logged P)) (more : List (Call P × Entry)) (x : Logged P) → Has xs x ⊎ Has more (x.call, x.entry) → Has (calls_onto xs more) (x.call, x.entry)
  onto_has [] more x (inl none) = absurd none
  onto_has [] more x (inr has) = has
  onto_has (y ∷ older) more x (inl (inl is)) = onto_has older ((y.call, y.entry) ∷ more) x (inr (inl (ap (λ (z : Logged P). (z.call, z.entry)) is)))
  onto_has (y ∷ older) more x (inl (inr has)) = onto_has older ((y.call, y.entry) ∷ more) x (inl has)
  onto_has (y ∷ older) more x (inr has) = onto_has older ((y.call, y.entry) ∷ more) x (inr (inr has))

  pub onto_is : (xs : List (Logged P)) (more : List (Call P × Entry)) (y : Call P × Entry) → Has (calls_onto xs more) y → ((x : Logged P) × Has xs x × ((x.call, x.entry) ≡ y)) ⊎ Has more y
  onto_is [] more y has = inr has
  onto_is (x ∷ older) more y has = elim (onto_is older ((x.call, x.entry) ∷ more) y has) [
    | inl (z, there, is) ↦ inl (z, inr there, is)
    | inr (inl is) ↦ inl (x, inl refl, is)
    | inr (inr there) ↦ inr there
  ]

  -- ---- its rounds, with others after them

  abbrev pub round_from : LoggedRound P → ExecutionRound P
  round_from r = record { now = r.now; timeout = r.timeout.entry; following = calls_onto r.following [] }

  abbrev pub rounds_onto : List (LoggedRound P) → List (ExecutionRound P) → List (ExecutionRound P)
  rounds_onto [] more = more
  rounds_onto (r ∷ older) more = rounds_onto older (round_from r ∷ more)

  pub rounds_is : (rounds : List (LoggedRound P)) (more : List (ExecutionRound P)) (y : ExecutionRound P) → Has (rounds_onto rounds more) y → ((x : LoggedRound P) × Has rounds x × (round_from x ≡ y)) ⊎ Has more y
  rounds_is [] more y has = inr has
  rounds_is (x ∷ older) more y has = elim (rounds_is older (round_from x ∷ more) y has) [
    | inl (z, there, is) ↦ inl (z, inr there, is)
    | inr (inl is) ↦ inl (x, inl refl, is)
    | inr (inr there) ↦ inr there
  ]

  pub rounds_count : (rounds : List (LoggedRound P)) (more : List (ExecutionRound P)) → length (rounds_onto rounds more) ≡ length rounds + length more
  rounds_count [] more = omega arith
  rounds_count (r ∷ older) more =
      let k : length (rounds_onto older (round_from r ∷ more)) ≡ length older + length (round_from r ∷ more) = rounds_count older (round_from r ∷ more) in omega (arith, k)

-- what may remove a pair in rounds fits rounds with either profile
pub ended-fits : {H P : Type 0} (answers : P → CandidateRecord → ℕ → ℕ → Type 0) (m : Bool) (a : AgentRecord H P) (call : Call P) (e : Entry) (path : Path) → is_in_round m call ≡ true → Ends answers a call e path
    → is_in_round true call ≡ true
ended-fits answers m a (SetRenomination on) e path is (p, has, joins, ends) = absurd ends
ended-fits answers m a _ e path is ended = is

module _ {H P : Type 0} (mac : H → List ℕ → List ℕ → List ℕ) (answers : P → CandidateRecord → ℕ → ℕ → Type 0) where
  -- ---- two parts of a segment

  abbrev pub split-run : (before : List (Logged P)) (start last : AgentRecord H P) (u t : Stream) (xs older : List (Logged P)) → RunsOn mac answers before start u (xs ++ older) last t
      → (mid : AgentRecord H P) × (v : Stream) × RunsOn mac answers before start u older mid v × RunsOn mac answers (older ++ before) mid v xs last t
  split-run before start last u t [] older run = (last, t, run, (refl, refl))
  split-run before start last u t (x ∷ xs) older (m, v, run, number, given, step) =
      let k = split-run before start m u v xs older run in
      (k.0, k.1, k.2, (m, v, k.3, number ∙ ap length (append_assoc xs older before), given, step))

  -- what ends a pair in one of two parts of a segment ends it in the segment
  pub split-ended : (path : Path) (before : List (Logged P)) (start last : AgentRecord H P) (u t : Stream) (xs older : List (Logged P)) → (run : RunsOn mac answers before start u (xs ++ older) last t)
      → IsEndedIn mac answers (older ++ before) (split-run before start last u t xs older run).0 (split-run before start last u t xs older run).1 xs last t (split-run before start last u t xs older run).3 path
      ⊎ IsEndedIn mac answers before start u older (split-run before start last u t xs older run).0 (split-run before start last u t xs older run).1 (split-run before start last u t xs older run).2 path
      → IsEndedIn mac answers before start u (xs ++ older) last t run path
  split-ended path before start last u t [] older run (inl none) = absurd none
  split-ended path before start last u t [] older run (inr ended) = ended
  split-ended path before start last u t (x ∷ xs) older (m, v, run, number, given, step) (inl (inl here)) = inl here
  split-ended path before start last u t (x ∷ xs) older (m, v, run, number, given, step) (inl (inr ended)) = inr (split-ended path before start m u v xs older run (inl ended))
  split-ended path before start last u t (x ∷ xs) older (m, v, run, number, given, step) (inr ended) = inr (split-ended path before start m u v xs older run (inr ended))

  -- ---- the execution of a segment

  abbrev pub execution_from : (more : List (Call P × Entry)) (a b last : AgentRecord H P) → a ≡ b → Execution mac answers more a last → Execution mac answers more b last
  execution_from [] a b last same is = is ∙ same
  execution_from (x ∷ rest) a b last same (mid, s, t, given, step, more) = (mid, s, t, given, subst (λ (z : AgentRecord H P). Step mac answers z s x.0 x.1 mid t) same step, more)

  ends_from : (path : Path) (more : List (Call P × Entry)) (a b last : AgentRecord H P) (same : a ≡ b) (execution : Execution mac answers more a last)
      → EndsAlong mac answers more b last (execution_from more a b last same execution) path → EndsAlong mac answers more a last execution path
  ends_from path [] a b last same execution none = absurd none
  ends_from path (x ∷ rest) a b last same (mid, s, t, given, step, more) (inl here) = inl (subst (λ (z : AgentRecord H P). Ends answers z x.0 x.1 path) (sym same) here)
  ends_from path (x ∷ rest) a b last same (mid, s, t, given, step, more) (inr others) = inr others

  abbrev pub execution_onto : (xs : List (Logged P)) (more : List (Call P × Entry)) (before : List (Logged P)) (start mid last : AgentRecord H P) (s t : Stream)
      → RunsOn mac answers before start s xs mid t → Execution mac answers more mid last → Execution mac answers (calls_onto xs more) start last
  execution_onto [] more before start mid last s t is execution = execution_from more mid start last is.0 execution
  execution_onto (x ∷ older) more before start mid last s t (old, u, run, number, given, step) execution =
      execution_onto older ((x.call, x.entry) ∷ more) before start old last s u run (mid, u, t, given, step, execution)

  ends_onto : (m : Bool) (path : Path) (xs : List (Logged P)) (more : List (Call P × Entry)) (before : List (Logged P)) (start mid last : AgentRecord H P) (s t : Stream)
      → ((x : Logged P) → Has xs x → is_in_round m x.call ≡ true)
      → (run : RunsOn mac answers before start s xs mid t) (execution : Execution mac answers more mid last)
      → EndsAlong mac answers (calls_onto xs more) start last (execution_onto xs more before start mid last s t run execution) path
      → IsEndedIn mac answers before start s xs mid t run path ⊎ EndsAlong mac answers more mid last execution path
  ends_onto m path [] more before start mid last s t fits is execution ended = inr (ends_from path more mid start last is.0 execution ended)
  ends_onto m path (x ∷ older) more before start mid last s t fits (old, u, run, number, given, step) execution ended =
      elim (ends_onto m path older ((x.call, x.entry) ∷ more) before start old last s u (λ y has. fits y (inr has)) run (mid, u, t, given, step, execution) ended) [
        | inl within ↦ inl (inr within)
        | inr (inl here) ↦ inl (inl (ended-fits answers m old x.call x.entry path (fits x (inl refl)) here, here))
        | inr (inr others) ↦ inr others
      ]

  -- the execution before a segment
  pub execution_to : (before : List (Logged P)) (first start last : AgentRecord H P) (more : List (Call P × Entry)) (s t : Stream) → Run mac answers first s before start t
      → Execution mac answers more start last → Execution mac answers (calls_onto before more) first last
  execution_to [] first start last more s t is execution = execution_from more start first last is.0 execution
  execution_to (x ∷ before) first start last more s t (old, u, led, number, given, step) execution =
      execution_to before first old last ((x.call, x.entry) ∷ more) s u led (start, u, t, given, step, execution)

  -- ---- the rounds of a segment

  abbrev pub pass_from : (more : List (ExecutionRound P)) (a b last : AgentRecord H P) → a ≡ b → PassRounds mac answers more a last → PassRounds mac answers more b last
  pass_from [] a b last same is = is ∙ same
  pass_from (r ∷ later) a b last same (mid, next, s, t, step, execution, more) =
      (mid, next, s, t, subst (λ (z : AgentRecord H P). Step mac answers z s (HandleTimeout r.now) r.timeout mid t) same step, execution, more)

  among_from : (path : Path) (more : List (ExecutionRound P)) (a b last : AgentRecord H P) (same : a ≡ b) (pass : PassRounds mac answers more a last)
      → EndsAmong mac answers more b last (pass_from more a b last same pass) path → EndsAmong mac answers more a last pass path
  among_from path [] a b last same pass none = absurd none
  among_from path (r ∷ later) a b last same (mid, next, s, t, step, execution, more) ended = ended

  abbrev Comes : List (LoggedRound P) → Type 0
  Comes rounds = (r : LoggedRound P) → Has rounds r → r.timeout.call ≡ HandleTimeout r.now

  abbrev pub pass_onto : (rounds : List (LoggedRound P)) (more : List (ExecutionRound P)) (before : List (Logged P)) (start mid last : AgentRecord H P) (s t : Stream) → Comes rounds
      → RunsOn mac answers before start s (entries_of rounds) mid t → PassRounds mac answers more mid last → PassRounds mac answers (rounds_onto rounds more) start last
  pass_onto [] more before start mid last s t comes is pass = pass_from more mid start last is.0 pass
  pass_onto (r ∷ older) more before start mid last s t comes run pass =
      let h = split-run before start mid s t r.following (r.timeout ∷ entries_of older) run in
      pass_onto older (round_from r ∷ more) before start h.2.0 last s h.2.1 (λ x has. comes x (inr has)) h.2.2 (
        h.0,
        mid,
        h.2.1,
        h.1,
        subst (λ (c : Call P). Step mac answers h.2.0 h.2.1 c r.timeout.entry h.0 h.1) (comes r (inl refl)) h.2.5,
        execution_onto r.following [] ((r.timeout ∷ entries_of older) ++ before) h.0 mid mid h.1 t h.3 refl,
        pass,
      )

  pub among_onto : (m : Bool) (path : Path) (rounds : List (LoggedRound P)) (more : List (ExecutionRound P)) (before : List (Logged P)) (start mid last : AgentRecord H P) (s t : Stream) (comes : Comes rounds)
      → ((r : LoggedRound P) → Has rounds r → (x : Logged P) → Has r.following x → is_in_round m x.call ≡ true)
      → (run : RunsOn mac answers before start s (entries_of rounds) mid t) (pass : PassRounds mac answers more mid last)
      → EndsAmong mac answers (rounds_onto rounds more) start last (pass_onto rounds more before start mid last s t comes run pass) path
      → IsEndedIn mac answers before start s (entries_of rounds) mid t run path ⊎ EndsAmong mac answers more mid last pass path
  among_onto m path [] more before start mid last s t comes fits is pass ended = inr (among_from path more mid start last is.0 pass ended)
  among_onto m path (r ∷ older) more before start mid last s t comes fits run pass ended =
      let h = split-run before start mid s t r.following (r.timeout ∷ entries_of older) run in
      elim (among_onto m path older (round_from r ∷ more) before start h.2.0 last s h.2.1 (λ x has. comes x (inr has)) (λ x has. fits x (inr has)) h.2.2 (
        h.0,
        mid,
        h.2.1,
        h.1,
        subst (λ (c : Call P). Step mac answers h.2.0 h.2.1 c r.timeout.entry h.0 h.1) (comes r (inl refl)) h.2.5,
        execution_onto r.following [] ((r.timeout ∷ entries_of older) ++ before) h.0 mid mid h.1 t h.3 refl,
        pass,
      ) ended) [
        | inl within ↦ inl (split-ended path before start mid s t r.following (r.timeout ∷ entries_of older) run (inr (inr within)))
        | inr (inl here) ↦ elim (ends_onto m path r.following [] ((r.timeout ∷ entries_of older) ++ before) h.0 mid mid h.1 t (λ x has. fits r (inl refl) x has) h.3 refl here) [
          | inl within ↦ inl (split-ended path before start mid s t r.following (r.timeout ∷ entries_of older) run (inl within))
          | inr none ↦ absurd none
        ]
        | inr (inr others) ↦ inr others
      ]

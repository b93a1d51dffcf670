-- A log grows by a call and its entry.
use Rattle.is.specs.declared.calls.AgentCall.{AgentCall}
use Rattle.is.specs.declared.calls.Entry.{Entry}
use Rattle.is.specs.declared.runs.RunLog.{RunLog}
use Rattle.is.specs.Log.{logged_as, logged, log_of, IsRunLog, EntriesPersist}
use Rattle.is.proofs.Common.{[], ◌++◌, ◌+◌, ◌<◌, ◌∙◌, ◌∷◌, ◌≡◌, AgentRecord, ap, append_assoc, arith, CandidateRecord, EntriesArePoints}
use Rattle.is.proofs.Common.{false, length, length-append, List, Logged, MatchBool, Point, refl, Run, Stream, subst, sym, true, ℕ}

pub logged-push : {P : Type 0} (log : List (Logged P)) (calls : List (AgentCall P)) (entries : List Entry) (c : AgentCall P) (e : Entry) → length entries ≡ length calls → logged log (calls ++ c ∷ []) (entries ++ e ∷ []) ≡ logged_as c e ∷ logged log calls entries
logged-push log [] [] c e h = refl
logged-push log [] (f ∷ entries) c e h = cc
logged-push log (d ∷ calls) [] c e h = cc
logged-push log (d ∷ calls) (f ∷ entries) c e h = logged-push (logged_as d f ∷ log) calls entries c e (omega arith)

pub length-logged : {P : Type 0} (log : List (Logged P)) (calls : List (AgentCall P)) (entries : List Entry) → length entries ≡ length calls → length (logged log calls entries) ≡ length log + length calls
length-logged log [] [] h = omega arith
length-logged log [] (f ∷ entries) h = cc
length-logged log (d ∷ calls) [] h = cc
length-logged log (d ∷ calls) (f ∷ entries) h =
    let more = length-logged (logged_as d f ∷ log) calls entries (omega arith) in omega arith

logged-none : {P : Type 0} (log : List (Logged P)) (calls : List (AgentCall P)) → logged log calls [] ≡ log
logged-none log [] = refl
logged-none log (c ∷ calls) = refl

module _ {H P : Type 0} (mac : H → List ℕ → List ℕ → List ℕ) (answers : P → CandidateRecord → ℕ → ℕ → Type 0) where
  -- a run's log is that of an execution, stopped or not
  pub run_of : (old new : AgentRecord H P) (s t : Stream) (calls : List (AgentCall P)) (log : RunLog) → IsRunLog mac answers old s calls log new t → Run mac answers old s (log_of calls log) new t
  run_of old new s t calls log is =
      elim log.stopped as (λ b. MatchBool b ((log.entries.items ≡ []) × (new ≡ old) × (t ≡ s)) ((length log.entries.items ≡ length calls) × Run mac answers old s (log_of calls log) new t) → Run mac answers old s (log_of calls log) new t)
      [ true ↦ λ h. rw (h.0, logged-none) (h.1, h.2) | false ↦ λ h. h.1 ] is

  -- each entry of a run's log is between two abstract states
  pub entries_persist : EntriesArePoints mac answers → (first last : AgentRecord H P) (s t : Stream) (log : List (Logged P)) → Run mac answers first s log last t
      → EntriesPersist mac answers first s log
  entries_persist law first last s t log run rest before x split =
      let at : (mid after : AgentRecord H P) × Point mac answers first s (rest ++ x ∷ before) before mid x after =
      law first last s t rest before x (subst (λ (l : List (Logged P)). Run mac answers first s l last t) split run) in
      subst (λ (l : List (Logged P)). (mid after : AgentRecord H P) × Point mac answers first s l before mid x after) (sym split) at

-- a call is left, so fewer were made than there are
pub fewer : {P : Type 0} (made left all more : List (AgentCall P)) (c : AgentCall P) → made ++ left ≡ all → left ≡ c ∷ more → length made < length all
fewer made left all more c e f = omega (arith, length-append made left, ap length e, ap length f)

pub still_left : {P : Type 0} (made left all more : List (AgentCall P)) (c : AgentCall P) → made ++ left ≡ all → left ≡ c ∷ more → (made ++ c ∷ []) ++ more ≡ all
still_left made left all more c e f = append_assoc made (c ∷ []) more ∙ rw f at e

pub still_one_each : {P : Type 0} (made : List (AgentCall P)) (entries : List Entry) (c : AgentCall P) (e : Entry) → length entries ≡ length made → length (entries ++ e ∷ []) ≡ length (made ++ c ∷ [])
still_one_each made entries c e same = simp length-append (omega arith)

-- The log of a two-agent network model grows by an event and its entry.
use Rattle.is.proofs.Common.{[], ◌++◌, ◌+◌, ◌∙◌, ◌∷◌, ◌≡◌, ap, arith, CandidateRecord, Happens, length, List, logged, logged_as}
use Rattle.is.proofs.Common.{LoggedEvent, refl, Streams, subst, suc, TwoAgentsEvent, WorldEntry, WorldRecord, WorldRun, ℕ}

pub logged-push : {P : Type 0} (events : List (TwoAgentsEvent P)) (entries : List WorldEntry) (v : TwoAgentsEvent P) (e : WorldEntry) → length entries ≡ length events → logged (events ++ v ∷ []) (entries ++ e ∷ []) ≡ logged events entries ++ logged_as v e ∷ []
logged-push [] [] v e h = refl
logged-push [] (f ∷ entries) v e h = cc
logged-push (d ∷ events) [] v e h = cc
logged-push (d ∷ events) (f ∷ entries) v e h = ap (λ log. logged_as d f ∷ log) (logged-push events entries v e (omega arith))

pub length-logged : {P : Type 0} (events : List (TwoAgentsEvent P)) (entries : List WorldEntry) → length entries ≡ length events → length (logged events entries) ≡ length events
length-logged [] [] h = refl
length-logged [] (f ∷ entries) h = cc
length-logged (d ∷ events) [] h = cc
length-logged (d ∷ events) (f ∷ entries) h = let more = length-logged events entries (omega arith) in ap suc more

module _ {H P : Type 0} (mac : H → List ℕ → List ℕ → List ℕ) (answers : P → CandidateRecord → ℕ → ℕ → Type 0) where
  pub run_push : (log : List (LoggedEvent P)) (first w last : WorldRecord H P) (s u t : Streams) (n m : ℕ) (x : LoggedEvent P) → WorldRun mac answers first s n log w u
      → m ≡ n + length log → x.number ≡ m → Happens mac answers w u x.event x.outcome last t → WorldRun mac answers first s n (log ++ x ∷ []) last t
  run_push [] first w last s u t n m x (same_world, same_stream) count is h =
      (last, t, (is ∙ omega (arith, count)), subst (λ v. Happens mac answers v s x.event x.outcome last t) same_world (subst (λ q. Happens mac answers w q x.event x.outcome last t) same_stream h), (refl, refl))
  run_push (y ∷ log) first w last s u t n m x (mid, v, number, happens, ran) count is h =
      (mid, v, number, happens, run_push log mid w last v u t (suc n) m x ran (omega (arith, count)) is h)

-- With a punctual caller a pair on which a request was served is reached by the time of the last round. What mutants/specifications changes is
-- read by tactics.
use Rattle.is_theorems.proofs.Common.{◌+◌, arith, CandidateRecord, inl, inr, List, refl, RoundsComeInTime, ServedExecutionsReach}
use Rattle.is_theorems.proofs.Common.{ServedExecutionsReachInTime, ℕ}
use Rattle.is_theorems.proofs.PunctualTimeouts.ChecksInTime.{come-all}

module _ {H P : Type 0} (mac : H → List ℕ → List ℕ → List ℕ) (answers : P → CandidateRecord → ℕ → ℕ → Type 0) where
  pub served-reach-in-time : ServedExecutionsReach {H = H} {P = P} mac answers → RoundsComeInTime {H = H} {P = P} mac answers → ServedExecutionsReachInTime {H = H} {P = P} mac answers
  served-reach-in-time reach come first start last xs r later p by m pace delay fresh execution line served run opens lasting quiet enough timed =
      let round = opens r (inl refl) in
      elim (come first start last xs r later p by pace delay fresh execution line (let late = round.late in omega (arith, late)) (let done = round.done in search done) (let early = round.early in omega (arith, early))
      (λ y has. (let in_round = round.between in in_round y has)) run (λ x has. opens x (inr has)) (λ x has. lasting x (inr has)) (search timed)) [
        | inl coming ↦ elim (reach first start last xs r later p by m fresh execution line served run (λ x has. opens x has) (λ x has. lasting x has) (λ x has. (let still = quiet x has in search still)) (omega (arith, enough))) [
          | inl (inl (x, id, has, out)) ↦ inl (inl (x, has, (id, out), (let in_time = come-all r.now (pace + delay) r later x has coming in omega (arith, in_time))))
          | inl (inr others) ↦ inl (inr others)
          | inr overtaken ↦ inr (search overtaken)
        ]
        | inr (inl (x, has, out, in_time)) ↦ inl (inl (x, has, out, omega (arith, in_time)))
        | inr (inr others) ↦ inl (inr others)
      ]

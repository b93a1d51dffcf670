-- Whoever calls `handle_timeout` no sooner than a time within credit is frugal: no other call changes the charges for checks, or the time of
-- the last call. What mutants/specifications changes is read by tactics.
use Rattle.std.proofs.Common.{◌≡◌, ℕ, ◌+◌, ◌*◌, ◌≤◌, ◌⊎◌, false, List, [], ◌∷◌, inl, inr, refl, ap, sym, ◌∙◌, arith}
use Rattle.is_proto.specs.Lists.{Has}
use Rattle.is_proto.specs.Times.{MAX, MILLISECOND, later}
use Rattle.is_candidate.specs.Candidates.{CandidateRecord}
use Rattle.is_rules.specs.Agent.{AgentRecord}
use Rattle.is_rules.proofs.PollsAndResponses.TimesWithinCredit.{Within, within-later}
use Rattle.is_theorems.specs.CheckRate.{CreditIsFrugal}
use Rattle.is_theorems.specs.Logs.{Logged}
use Rattle.is_theorems.specs.NotStarved.{is_timeout}
use Rattle.is_theorems.specs.Shared.{SharedRun}
use Rattle.is_theorems.proofs.CheckCounts.LastTimes.{charges-stay, last-stays}

-- a time within credit, of a call in a second
pub frugal-at : (from last old new now : ℕ) → new ≡ old → from ≤ last → from ≤ MAX → Within last old now
    → (later last (25 * MILLISECOND) ≤ now) ⊎ ((from ≤ now) × (new ≤ now + 225 * MILLISECOND))
frugal-at from last old new now same since room (inl gone) = inl (omega (arith, gone))
frugal-at from last old new now same since room (inr (paced, ahead)) = inr (omega (arith, since, room, paced), omega (arith, same, ahead))

module _ {H P : Type 0} (mac : H → List ℕ → List ℕ → List ℕ) (answers : P → CandidateRecord → ℕ → ℕ → Type 0) where
  clocks-stay : (first last : AgentRecord H P) (since : List (Logged P)) → SharedRun mac answers first since last → ((y : Logged P) → Has since y → is_timeout y.call ≡ false)
      → (last.last_time ≡ first.last_time) × (last.charged_until ≡ first.charged_until)
  clocks-stay first last [] run others = (ap (λ (a : AgentRecord H P). a.last_time) run, ap (λ (a : AgentRecord H P). a.charged_until) run)
  clocks-stay first last (y ∷ since) (mid, s, t, run, based, step) others =
      let stay = clocks-stay first mid since run (λ z has. others z (inr has)) in
      let other = others y (inl refl) in
      (last-stays mac answers y.call mid last s t y.entry other step ∙ stay.0, charges-stay mac answers y.call mid last s t y.entry other step ∙ stay.1)

  pub credit-is-frugal : CreditIsFrugal {H = H} mac answers
  credit-is-frugal asked last since before x from at run others within comes room = λ now call early called. inr (λ time time_is le.
      let stay = clocks-stay asked last since run (λ y has. search (others y has)) in
      search (frugal-at from time asked.charged_until last.charged_until now stay.1 le (search room)
      (within-later time asked.charged_until at now (search (comes now call)) (within time (sym stay.0 ∙ time_is)))))

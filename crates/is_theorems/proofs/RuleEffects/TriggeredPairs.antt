-- A request that triggers a check changes only when its pair is due.
use Rattle.is_theorems.proofs.Common.{◌&&◌, ◌≡◌, AgentRecord, Bool, false, if◌then◌else◌, is_modern, is_triggered, min, moved_up, Option}
use Rattle.is_theorems.proofs.Common.{option_map, PairRecord, refl, RequestRecord, subst, sym, triggered_time, triggered, true, ℕ}

pub triggered_is : (modern : Bool) (at : ℕ) (p : PairRecord) → (due : Option ℕ) × (triggered modern at p ≡ record p { due = due })
triggered_is modern at p = by (modern && is_triggered p) where
  by : (b : Bool) → (due : Option ℕ) × ((if b then moved_up at p else p) ≡ record p { due = due })
  by true = (option_map (min at) p.due, refl)
  by false = (p.due, refl)

-- what holds of the pair whenever it is due
pub triggered_holds : (Holds : PairRecord → Type 0) (modern : Bool) (at : ℕ) (p : PairRecord)
    → ((due : Option ℕ) → Holds (record p { due = due })) → Holds (triggered modern at p)
triggered_holds Holds modern at p h = let k = triggered_is modern at p in subst (λ (x : PairRecord). Holds x) (sym k.1) (h k.0)

module _ {H P : Type 0} where
  -- the pair before it records the request
  abbrev pub triggered_by : RequestRecord → AgentRecord H P → PairRecord → PairRecord
  triggered_by q s p = triggered (is_modern s.timing) (triggered_time q s) p

  pub by_trigger : (Holds : PairRecord → Type 0) (q : RequestRecord) (s : AgentRecord H P) (p : PairRecord)
      → ((due : Option ℕ) → Holds (record p { due = due })) → Holds (triggered_by q s p)
  by_trigger Holds q s p h = triggered_holds Holds (is_modern s.timing) (triggered_time q s) p h

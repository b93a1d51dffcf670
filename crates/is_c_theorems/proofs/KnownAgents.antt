-- What the log of a new agent implies: the invariant, and that the pair which `selected_pair` names is valid and nominated, on the path that was
-- selected last.
use Rattle.is_c_theorems.proofs.Common.{◌≡◌, answers, Has, Held, holds, IceCreds, is_nominated, is_valid, IsSound, last_selected, mac_of}
use Rattle.is_c_theorems.proofs.Common.{newborn, PairRecord, path_of, PathTheorem, Preference, Some, true, ℕ}
use Rattle.is_c_theorems.proofs.AlongExecutions.{is_new}
use Rattle.is_c_theorems.proofs.LogsOfCalls.{Ran}
use Rattle.is_c_theorems.proofs.SettingsOfCalls.{Log}

pub record Known (log : Log) (a : Held) : Type 0 where
  pub sound : IsSound a
  pub named : (p : PairRecord) → Has a.pairs p → a.selected_pair ≡ Some p.number
      → (is_valid p ≡ true) × (is_nominated p ≡ true) × (last_selected log ≡ Some (path_of a p))

pub known : PathTheorem {H = _} {P = Preference} mac_of answers → (creds : IceCreds) (tie_breaker : ℕ) (log : Log) (last : Held)
    → Ran (newborn creds tie_breaker) log last → Known log last
known law creds tie_breaker log last run =
    let h = holds mac_of answers law (newborn creds tie_breaker) (is_new creds tie_breaker) log last run in record { sound = h.sound; named = h.named }

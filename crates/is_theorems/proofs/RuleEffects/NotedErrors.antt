-- An error response changes only the code that its pair keeps, and maybe the role.
use Rattle.is_theorems.proofs.Common.{[], ◌&&◌, ◌∙◌, ◌∷◌, ◌≡◌, after_error, AgentRecord, ap, Bool, change_at, change_pair, Drops, Emitted}
use Rattle.is_theorems.proofs.Common.{error_noted, false, HandlesFailure, if◌then◌else◌, is_numbered, is_role_conflict, keeps_role, List}
use Rattle.is_theorems.proofs.Common.{map, Message, None, not, nothing_emitted, Option, option_map_or, PairRecord, Path, refl, same, Some}
use Rattle.is_theorems.proofs.Common.{subst, switched, sym, true, with_error, ℕ}
use Rattle.is_theorems.proofs.RuleEffects.UnchangedSettings.{either}

-- the pair with a code
abbrev pub coded : (PairRecord → Option ℕ) → PairRecord → PairRecord
coded code p = record p { last_error = code p }

-- the code of a pair after an error response to a check of the pair with the number
abbrev pub code_of : ℕ → Message → PairRecord → Option ℕ
code_of number m p = (change_at number (after_error m) p).last_error

after-is : (m : Message) (p : PairRecord) → after_error m p ≡ record p { last_error = (after_error m p).last_error }
after-is m p = by m.attributes.error_code where
  by : (o : Option (ℕ × List ℕ)) → option_map_or (λ (e : ℕ × List ℕ). with_error e.0 p) o p ≡ record p { last_error = (option_map_or (λ (e : ℕ × List ℕ). with_error e.0 p) o p).last_error }
  by None = refl
  by (Some e) = refl

coded-is : (number : ℕ) (m : Message) (p : PairRecord) → change_at number (after_error m) p ≡ coded (code_of number m) p
coded-is number m p = by (is_numbered number p) where
  by : (b : Bool) → (if b then after_error m p else p) ≡ record p { last_error = (if b then after_error m p else p).last_error }
  by true = after-is m p
  by false = refl

all-coded : (number : ℕ) (m : Message) (ps : List PairRecord) → change_pair number (after_error m) ps ≡ map (coded (code_of number m)) ps
all-coded number m [] = refl
all-coded number m (p ∷ ps) =
    ap (λ (x : PairRecord). x ∷ change_pair number (after_error m) ps) (coded-is number m p)
    ∙ ap (λ (xs : List PairRecord). coded (code_of number m) p ∷ xs) (all-coded number m ps)

module _ {H P : Type 0} where
  abbrev pub recoded : (PairRecord → Option ℕ) → AgentRecord H P → AgentRecord H P
  recoded code a = record a { pairs = map (coded code) a.pairs }

  pub noted-is : (number : ℕ) (m : Message) (a : AgentRecord H P) → error_noted number m a ≡ recoded (code_of number m) a
  noted-is number m a = ap (λ (ps : List PairRecord). record a { pairs = ps }) (all-coded number m a.pairs)

  -- what holds however the codes change, and also if the role is switched then
  pub by_failure : (Holds : Emitted → AgentRecord H P → Type 0) (old new : AgentRecord H P) (via : Path) (m : Message) (emitted : Emitted)
      → ((code : PairRecord → Option ℕ) → Holds nothing_emitted (recoded code old))
      → ((code : PairRecord → Option ℕ) → Holds nothing_emitted (switched (recoded code old)))
      → HandlesFailure old via m emitted new → Holds emitted new
  by_failure Holds old new via m emitted stays switches (p, has, on, h) =
      either (is_role_conflict m) h
      (λ _ k. either (same k.0.controlling old.controlling && not (keeps_role old)) k.3
      (λ _ z. dropped (switched (error_noted p.number m old)) swapped z) (λ _ z. dropped (error_noted p.number m old) still z))
      (λ _ z. dropped (error_noted p.number m old) still z) where
        still : Holds nothing_emitted (error_noted p.number m old)
        still = subst (λ (a : AgentRecord H P). Holds nothing_emitted a) (sym (noted-is p.number m old)) (stays (code_of p.number m))

        swapped : Holds nothing_emitted (switched (error_noted p.number m old))
        swapped = subst (λ (a : AgentRecord H P). Holds nothing_emitted (switched a)) (sym (noted-is p.number m old)) (switches (code_of p.number m))

        dropped : (a : AgentRecord H P) → Holds nothing_emitted a → Drops a emitted new → Holds emitted new
        dropped a holds (nothing, made) = subst (λ (x : Emitted). Holds x new) (sym nothing) (subst (λ (x : AgentRecord H P). Holds nothing_emitted x) (sym made) holds)

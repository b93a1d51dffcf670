use Rattle.is_candidate.specs.Addresses.{same_address, same_version}
use Rattle.is_candidate.specs.Kinds.{same_kind}
use Rattle.is_rules.proofs.Common.{[], ◌&&◌, ◌||◌, ◌∙◌, ◌∷◌, ◌≡◌, base_of, Bool, CandidateRecord, false, if◌then◌else◌, is_reflexive}
use Rattle.is_rules.proofs.Common.{is_reflexive_like, is_reflexive_of, List, list_any, not, reach_of, refl, Relayed, SocketAddr, sym, true}
use Rattle.is_rules.proofs.Common.{ℕ}
use Rattle.is_rules.proofs.kind_table.is_none_reflexive.Goals as goal

none-like : (base : SocketAddr) (local : List CandidateRecord) → list_any is_reflexive local ≡ false → list_any (is_reflexive_like base) local ≡ false
none-like base [] h = refl
none-like base (c ∷ cs) h =
    elim (is_reflexive c) as (λ b. (b || list_any is_reflexive cs) ≡ false → ((b && same_version (base_of c) base) || list_any (is_reflexive_like base) cs) ≡ false) [
      | true ↦ λ any. absurd (cc)
      | false ↦ λ any. none-like base cs any
    ] h

none-of : (base : SocketAddr) (local : List CandidateRecord) → list_any is_reflexive local ≡ false → list_any (is_reflexive_of base) local ≡ false
none-of base [] h = refl
none-of base (c ∷ cs) h =
    elim (is_reflexive c) as (λ b. (b || list_any is_reflexive cs) ≡ false → ((b && same_address (base_of c) base) || list_any (is_reflexive_of base) cs) ≡ false) [
      | true ↦ λ any. absurd (cc)
      | false ↦ λ any. none-of base cs any
    ] h

unknown : (local : List CandidateRecord) (c : CandidateRecord) → list_any is_reflexive local ≡ false → reach_of local c ≡ reach_of [] c
unknown local c h =
    by (same_kind c.kind Relayed) (list_any (is_reflexive_of (base_of c)) local) (list_any (is_reflexive_like (base_of c)) local)
    (none-of (base_of c) local h) (none-like (base_of c) local h)
  where
    by : (relayed base like : Bool) → base ≡ false → like ≡ false
        → ◌≡◌ {A = ℕ} (if relayed || base then 0 else (if like then 1 else 2)) (if relayed || false then 0 else 2)
    by relayed true like h k = absurd (cc)
    by relayed false true h k = absurd (cc)
    by relayed false false h k = refl

not-is : (b : Bool) → not b ≡ true → b ≡ false
not-is true h = absurd (cc)
not-is false h = refl

pub returns : goal.returns
returns c = λ is d. unknown c.args.local.now d (sym c.has_any_reflexive.ensures ∙ not-is c.has_any_reflexive.result is)

-- An accepted response makes a controlling agent select a path.
use Rattle.is_stun.specs.declared.header.Class.TheVariants as class
use Rattle.is_theorems.proofs.Common.{◌&&◌, ◌≡◌, AgentRecord, AnswersSelect, Bool, Brings, Call, CandidateRecord, Done, Entry, false}
use Rattle.is_theorems.proofs.Common.{HandleTimeout, is_eligible, is_nominated, is_valid, IsNominationPoint, List, Message, None}
use Rattle.is_theorems.proofs.Common.{PairRecord, Path, ReceivePacket, refl, request_at, subst, sym, TimeoutsSelect, true, ℕ}
use Rattle.is_theorems.proofs.CallEffects.PathAndTradeEffects.{path_theorem}
use Rattle.is_theorems.proofs.ExecutionLogs.LogTheorems.{points_are_top, takers_are_valid}

both : (a b : Bool) → a ≡ true → b ≡ true → (a && b) ≡ true
both true b h k = k
both false b h k = h

pub eligible : (c : Bool) (p : PairRecord) → c ≡ true → is_valid p ≡ true → is_eligible c p ≡ true
eligible true p h valid = both (is_valid p) true valid refl
eligible false p h valid = absurd (cc)

pub nominated-eligible : (c : Bool) (p : PairRecord) → is_valid p ≡ true → is_nominated p ≡ true → is_eligible c p ≡ true
nominated-eligible true p valid nominated = both (is_valid p) true valid refl
nominated-eligible false p valid nominated = both (is_valid p) (is_nominated p) valid nominated

module _ {H P : Type 0} where
  pub point-of : (old : AgentRecord H P) (call : Call P) (e : Entry) (at : ℕ) (by : Path) (m : Message) → Brings call e at by m → m.class ≡ class.Success → IsNominationPoint old call e
  point-of old (ReceivePacket now path bytes) e at by m brings is = (at, by, m, brings, is)
  point-of old _ e at by m brings is = absurd brings

  pub answers-select : (mac : H → List ℕ → List ℕ → List ℕ) (answers : P → CandidateRecord → ℕ → ℕ → Type 0) → AnswersSelect mac answers
  answers-select mac answers first s log fresh before mid after x point at by m brings is controlling =
      let taken = takers_are_valid mac answers (path_theorem mac answers) first s log fresh before mid after x point at by m brings is in
      points_are_top mac answers (path_theorem mac answers) first s log fresh before mid after x point (point-of mid x.call x.entry at by m brings is) taken.0 taken.1
      (eligible after.controlling taken.0 controlling taken.3)

  pub timeout-point : (now : ℕ) (old : AgentRecord H P) (call : Call P) (e : Entry) → call ≡ HandleTimeout now → e.answer ≡ Done → request_at now old ≡ None → IsNominationPoint old call e
  timeout-point now old call e is done none = subst (λ (c : Call P). IsNominationPoint old c e) (sym is) (done, none)

  pub timeouts-select : (mac : H → List ℕ → List ℕ → List ℕ) (answers : P → CandidateRecord → ℕ → ℕ → Type 0) → TimeoutsSelect mac answers
  timeouts-select mac answers first s log fresh before mid after x point now is done none p has valid nominated =
      points_are_top mac answers (path_theorem mac answers) first s log fresh before mid after x point (timeout-point now mid x.call x.entry is done none) p has
      (nominated-eligible after.controlling p valid nominated)

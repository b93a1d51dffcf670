-- Selection at once: a request that is served on a path whose pairs are valid is a nomination point, as a success response is.
use Rattle.std.specs.Prelude.{◌≡◌, ℕ, true, List, ◌∷◌, Some}
use Rattle.rand_core.specs.Stream.{Stream}
use Rattle.is_proto.specs.Lists.{Has}
use Rattle.is_candidate.specs.Candidates.{CandidateRecord}
use Rattle.is_pair.specs.Pairs.{PairRecord, is_valid}
use Rattle.is_stun.specs.declared.header.Class.TheVariants as class
use Rattle.is_stun.specs.Timing.{is_modern}
use Rattle.is_rules.specs.declared.emitted.Issued.{Issued}
use Rattle.is_rules.specs.declared.emitted.Path.{Path}
use Rattle.is_rules.specs.Agent.{AgentRecord}
use Rattle.is_rules.specs.Nominating.{is_eligible}
use Rattle.is_rules.specs.Sending.{path_of}
use Rattle.is_theorems.specs.Asked.{IsAskedOn}
use Rattle.is_theorems.specs.Logs.{Logged}
use Rattle.is_theorems.specs.Runs.{AtEach, IsFresh, IsTopPath}

module _ {H P : Type 0} where
  -- Each pair that is on the path after the call was valid before it.
  abbrev pub WereValidOn : AgentRecord H P → AgentRecord H P → Path → Type 0
  WereValidOn old new path =
      (p : PairRecord) → Has new.pairs p → path_of new p ≡ path
      → (q : PairRecord) × Has old.pairs q × (q.number ≡ p.number) × (is_valid q ≡ true)

  module _ (mac : H → List ℕ → List ℕ → List ℕ) (answers : P → CandidateRecord → ℕ → ℕ → Type 0) where
    -- With selection at once: a request gets a success response on a path whose pairs were valid. Then the path that was selected
    -- last is that of a best pair, if a pair is eligible. The request may be an early one that a `handle_timeout` call serves.
    abbrev pub ServedSelect : AgentRecord H P → Stream → List (Logged P) → Type 0
    ServedSelect first s log =
        AtEach mac answers first s log (λ before mid x after. (issued : Issued) → x.entry.emitted.issued ≡ Some issued
        → issued.class ≡ class.Success → is_modern mid.timing ≡ true → WereValidOn mid after issued.path
        → (p : PairRecord) → Has after.pairs p → is_eligible after.controlling p ≡ true → IsTopPath mac answers (x ∷ before) after)

    -- If the request nominates the path to a controlled agent, the pair on it is eligible afterwards. So a path is selected.
    abbrev pub AskedSelectAtOnce : AgentRecord H P → Stream → List (Logged P) → Type 0
    AskedSelectAtOnce first s log =
        AtEach mac answers first s log (λ before mid x after. (path : Path) → IsAskedOn mid x after path
        → is_modern mid.timing ≡ true → WereValidOn mid after path → IsTopPath mac answers (x ∷ before) after)

    -- Whether the agent is lite or not.
    abbrev pub RequestsSelect : Type 0
    RequestsSelect = (first : AgentRecord H P) (s : Stream) (log : List (Logged P)) → IsFresh first → ServedSelect first s log

    abbrev pub NominationsSelectAtOnce : Type 0
    NominationsSelectAtOnce = (first : AgentRecord H P) (s : Stream) (log : List (Logged P)) → IsFresh first → AskedSelectAtOnce first s log

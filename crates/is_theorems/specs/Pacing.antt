-- The pacing interval Ta of an agent: only `set_timing_advance` changes it.
use Rattle.std.specs.Prelude.{◌≡◌, ℕ, List}
use Rattle.rand_core.specs.Stream.{Stream}
use Rattle.is_candidate.specs.Candidates.{CandidateRecord}
use Rattle.is_rules.specs.Agent.{AgentRecord}
use Rattle.is_rules.specs.Steps.{Call, Entry, SetTimingAdvance, Step}

abbrev pub advance_after : {P : Type 0} → Call P → ℕ → ℕ
advance_after (SetTimingAdvance by) old = by
advance_after _ old = old

-- Each transition, whatever is received, leaves the pacing interval or sets it.
abbrev pub PacingIsSet : {H P : Type 0} → (H → List ℕ → List ℕ → List ℕ) → (P → CandidateRecord → ℕ → ℕ → Type 0) → Type 0
PacingIsSet {H = H} {P = P} mac answers =
    (old new : AgentRecord H P) (s t : Stream) (call : Call P) (e : Entry) → Step mac answers old s call e new t
    → new.timing_advance ≡ advance_after call old.timing_advance

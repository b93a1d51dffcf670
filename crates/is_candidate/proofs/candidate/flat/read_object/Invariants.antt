use Rattle.std.proofs.Common.{ℕ, ◌≤◌, length, option_copied}
use Rattle.serde_json.specs.Data.{Members}
use Rattle.is_candidate.proofs.CandidateJson.MembersSoFar.{Kept, Goes}
use Rattle.is_candidate.proofs.candidate.flat.read_object.Given as goal

abbrev pub invariant-members : goal.invariant-members
invariant-members l =
    (n : ℕ) × (found : Members) × (length l.reader ≤ n) × Goes l.initial.reader l.reader n found
    × Kept found (option_copied l.line) (option_copied l.ufrag)

abbrev pub decreases-members : goal.decreases-members
decreases-members l = length l.reader

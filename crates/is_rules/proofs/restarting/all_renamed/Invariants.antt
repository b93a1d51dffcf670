use Rattle.is_rules.proofs.Common.{◌≡◌, map, take, with_ufrag}
use Rattle.is_rules.proofs.restarting.all_renamed.Given as goal

abbrev pub invariant-loop-candidate : goal.invariant-loop-candidate
invariant-loop-candidate l = l.kept.items ≡ map (with_ufrag l.ufrag) (take l.candidate-index l.local)

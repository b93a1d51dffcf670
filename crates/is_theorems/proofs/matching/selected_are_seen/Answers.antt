use Rattle.is_theorems.proofs.MatchingPaths.PathsOfTwoAgents.{selected_paths-seen}
use Rattle.is_theorems.proofs.matching.selected_are_seen.Goals as goal

pub returns : goal.returns
returns g c = selected_paths-seen _ _ c.points_are_top.ensures c.selected_match.ensures.paths

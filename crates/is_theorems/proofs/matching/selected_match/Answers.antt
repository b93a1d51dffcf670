use Rattle.is_theorems.proofs.MatchingPaths.PairsOfTwoAgents.{pairs_match, paths_match, reversed_match}
use Rattle.is_theorems.proofs.matching.selected_match.Goals as goal

pub returns-clause-pairs : goal.returns-clause-pairs
returns-clause-pairs g c = pairs_match c.top_paths_match.ensures c.ranks_settle.ensures

pub returns-clause-paths : goal.returns-clause-paths
returns-clause-paths g c = paths_match c.top_paths_match.ensures c.ranks_settle.ensures g.H.Sha1HmacProvider.mac g.P.LocalPreference.answers

pub returns-clause-reversed : goal.returns-clause-reversed
returns-clause-reversed g c =
    reversed_match c.top_paths_match.ensures c.ranks_settle.ensures g.H.Sha1HmacProvider.mac g.P.LocalPreference.answers c.points_are_top.ensures

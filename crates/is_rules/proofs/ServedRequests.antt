-- Requests that are served.
pub mod RecomputedPriorities
pub mod RulesInTurn

-- Renomination at one agent and at both.
pub mod LastNominatedPair
pub mod OnePathAtBothAgents
pub mod LastNominatedPerAgent
pub mod GreatestNumber

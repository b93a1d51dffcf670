-- Worked examples of the rules.
pub mod ExampleAgents
pub mod ExampleTransitions
pub mod ExampleTurns

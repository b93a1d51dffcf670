-- Kinds of pairs take turns.
pub mod OrderOfKinds
pub mod ChecksByKind
pub mod CountedTurns
pub mod SegmentsInTurn
pub mod RoundsByKind
pub mod RoundsInKind

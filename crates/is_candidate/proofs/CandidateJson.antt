-- The members and the text of candidate JSON.
pub mod WholeNumbers
pub mod MembersSoFar
pub mod PrintedJson

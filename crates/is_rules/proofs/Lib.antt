mod Common
pub mod PairLists
pub mod PollsAndResponses
pub mod ServedRequests
mod FunctionProofs

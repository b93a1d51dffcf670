-- USERNAMEs, addresses, lists, multisets and the pair that is checked next.
pub mod EqualAddresses
pub mod UsernamesAndFirstMatches
pub mod MembersOfLists
pub mod MultisetInclusion
pub mod VacantIndices
pub mod CandidatesByIndex
pub mod PairsInTurn
pub mod ServedPairs

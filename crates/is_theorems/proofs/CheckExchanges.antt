-- A check of one of two agents is delivered, and its response.
pub mod DeliveredChecks
pub mod ReturnedResponses
pub mod UseCandidateChecks
pub mod RoleConflicts

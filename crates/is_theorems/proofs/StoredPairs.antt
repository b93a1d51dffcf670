-- Pairs and pending transactions that stay.
pub mod PairsAfterForming
pub mod NumbersThatStay
pub mod PairsThatStay
pub mod StoredChecks
pub mod TransactionsOverPackets
pub mod TransactionsAfterRules
pub mod TransactionsThatStay

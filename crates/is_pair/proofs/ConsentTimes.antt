-- How long a pair has consent, and what renews it.
pub mod EndOfConsent

mod FetchedLemmas
pub mod FailureLemmas

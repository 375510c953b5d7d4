pub mod Places
pub mod NameLemmas
pub mod ChainLemmas
pub mod SameMessages
pub mod QueueLemmas
pub mod ListingLemmas
pub mod BatchLemmas
pub mod DateLemmas

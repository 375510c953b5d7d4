pub mod GivingLemmas
pub mod ServedLemmas
pub mod PoolPlaces
pub mod OrderLemmas
pub mod RoomLemmas
pub mod KeptEntries
pub mod CacheLemmas
pub mod HeldLemmas

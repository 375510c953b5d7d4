-- What the records of a journal add up to.
pub mod Kept
pub mod Records
pub mod Deliveries
pub mod private

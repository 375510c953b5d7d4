-- What private functions answer.
pub mod MemState
pub mod MemKept
pub mod MemDialled
pub mod Pairs

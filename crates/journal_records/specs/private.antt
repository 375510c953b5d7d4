-- What private functions answer.
pub mod Heads
pub mod Reading

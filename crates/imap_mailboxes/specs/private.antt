-- What private functions answer.
pub mod Runs
pub mod Stretches
pub mod Words

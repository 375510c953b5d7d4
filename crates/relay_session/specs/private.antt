-- What private functions answer.
pub mod Acting
pub mod Reported
pub mod Running

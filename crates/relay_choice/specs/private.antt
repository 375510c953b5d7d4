-- What private functions answer.
pub mod Places
pub mod Texts
pub mod Runs
pub mod Asking
pub mod Turns

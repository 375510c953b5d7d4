-- What private functions answer.
pub mod Steps

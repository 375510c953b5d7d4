-- What private functions answer.
pub mod Steps
pub mod Views

-- What private functions answer.
pub mod Reading

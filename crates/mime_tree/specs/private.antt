-- What private functions answer.
pub mod Open
pub mod Reading
pub mod Types

-- What private functions answer.
pub mod Lines
pub mod Parts
pub mod Given

-- What private functions answer.
pub mod LinesRead

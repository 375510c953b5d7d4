-- What private functions answer.
pub mod Building
pub mod Pieces
pub mod Moving
pub mod Storing

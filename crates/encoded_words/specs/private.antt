-- What private functions answer.
pub mod CommentReading
pub mod Parts
pub mod Values
pub mod Merging
pub mod Escapes

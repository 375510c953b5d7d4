-- What private functions answer.
pub mod Levels
pub mod Bodies
pub mod CommentWriting

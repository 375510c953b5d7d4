-- What private functions answer.
pub mod Adding
pub mod Store
pub mod Names
pub mod Replaying
pub mod Accounts
pub mod Writing
pub mod Folders
pub mod Appending
pub mod Queue

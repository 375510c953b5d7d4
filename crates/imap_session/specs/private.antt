-- What private functions do.
pub mod Appending
pub mod Asking
pub mod Fetched
pub mod Lines
pub mod Messages
pub mod Pending
pub mod Selected
pub mod Shown
pub mod Viewing

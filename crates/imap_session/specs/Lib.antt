-- IMAP: which replies and changes each command brings.
pub mod Replies
pub mod Items
pub mod Machine
pub mod Session
pub mod Answering
pub mod Putting
pub mod laws
pub mod private

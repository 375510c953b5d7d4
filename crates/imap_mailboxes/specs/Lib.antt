-- Names, patterns, sets and flags of IMAP, over the mailboxes of the store.
pub mod Names
pub mod Patterns
pub mod Sets
pub mod Flags
pub mod private

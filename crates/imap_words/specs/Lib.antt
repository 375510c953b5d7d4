-- The words of IMAP. A word is a relation of octets and what they say.
pub mod Languages
pub mod Reading
pub mod Going
pub mod Tokens
pub mod Keywords
pub mod Strings
pub mod Sets
pub mod Dates
pub mod Utf7

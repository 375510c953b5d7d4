-- The records of a journal, and how they are written.
pub mod Addresses
pub mod Grammar
pub mod Stored
pub mod Spelling
pub mod Versions
pub mod Writing
pub mod Frames
pub mod private

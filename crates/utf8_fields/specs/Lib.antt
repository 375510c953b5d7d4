-- The header block of a message, in UTF-8.
pub mod Lines
pub mod Parts
pub mod Block
pub mod Named
pub mod Faults
pub mod private

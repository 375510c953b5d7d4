-- The entities of a message: the message itself, its parts, and the messages in it.
pub mod Completing
pub mod Marks
pub mod Parts
pub mod Openings
pub mod Tree
pub mod Faults
pub mod Outlines
pub mod Rewriting
pub mod Sections
pub mod private

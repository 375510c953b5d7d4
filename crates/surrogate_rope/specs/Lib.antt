-- The surrogate of a whole message: its form in ASCII, for clients and servers without UTF-8.
pub mod Layout
pub mod Ropes
pub mod Served
pub mod Stored
pub mod private

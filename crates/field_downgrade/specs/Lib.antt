-- One header field of a surrogate: which field the layout rule gives, and what it keeps of the original.
pub mod Kinds
pub mod Words
pub mod Layout
pub mod PlainTexts
pub mod Typed
pub mod Received
pub mod GlobalBodies
pub mod Stands
pub mod Message
pub mod private

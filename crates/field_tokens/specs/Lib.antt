-- The tokens and comments of a structured field.
pub mod TokenOctets
pub mod Groups
pub mod Tokens
pub mod Lexemes
pub mod Trees
pub mod Comments
pub mod Squeezed
pub mod private

-- Phrases, addresses and lists of addresses, as they are written in ASCII.
pub mod PhrasePieces
pub mod PhraseLists
pub mod ListPieces
pub mod ListReadBack
pub mod PathPieces
pub mod private

-- Encoded words, and the units of a text: what it says, whichever way it is written.
pub mod Words
pub mod Units
pub mod CommentUnits
pub mod Contexts
pub mod PhraseUnits
pub mod WrittenWords
pub mod Folding
pub mod Written
pub mod private

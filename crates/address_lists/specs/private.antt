-- What private functions answer.
pub mod PhraseReadBack
pub mod PhraseListSteps
pub mod ListWriting
pub mod Emptied

-- What private functions answer.
pub mod Lexemes
pub mod Walks
pub mod ListViews
pub mod PhraseSteps
pub mod ListSteps
pub mod PlainPaths

pub mod DataLemmas
pub mod PathLemmas
pub mod ParameterLemmas
pub mod SentLines
pub mod PathOctets
pub mod GrammarPaths
pub mod DataLines
pub mod ReadingLemmas

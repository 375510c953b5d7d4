pub mod XtextUnits
pub mod ParameterFacts
pub mod NotifyFacts
pub mod OrcptFacts
pub mod KeptFacts
pub mod TermFacts
pub mod WrittenTerms

pub mod EncapsulatedLemmas
pub mod HexLemmas
pub mod FormLemmas
pub mod XtextLemmas

pub mod ClapLemmas
pub mod ReadLemmas
pub mod WordLemmas
pub mod ListLemmas
pub mod FormLemmas
pub mod AddingLemmas

pub mod NameLemmas
pub mod ReadMailboxes
pub mod PatternLemmas
pub mod CutLemmas
pub mod SetLemmas
pub mod StretchLemmas
pub mod FlagLemmas

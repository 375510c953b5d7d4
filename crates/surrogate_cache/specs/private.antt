-- How the entries of a cache are kept.
pub mod Kept

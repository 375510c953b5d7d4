-- The commands that add accounts and domains.
pub mod PlainWords
pub mod WordForms
pub mod Running
pub mod Statuses
pub mod AddingRuns
pub mod private

-- The commands of SMTP, and the data of a message.
pub mod Commands
pub mod Data
pub mod Paths
pub mod Reading
pub mod private

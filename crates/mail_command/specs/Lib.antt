-- The commands of the program, and the sessions that it serves.
pub mod Taking
pub mod Words
pub mod Protocols
pub mod Checking
pub mod Generating
pub mod Giving
pub mod Outcome
pub mod Running
pub mod Passwords
pub mod RelayRuns
pub mod Causes
pub mod Begun
pub mod Connections
pub mod private

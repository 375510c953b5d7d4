-- Octets, lines and moments, and the objects outside the program: a wire, a keeper, a dial and a clock. What each tells of itself may be absent: a file or a
-- connection tells nothing.
pub mod Numbers
pub mod Characters
pub mod Octets
pub mod Tables
pub mod Spans
pub mod Lines
pub mod Dots
pub mod Folds
pub mod Message
pub mod Causes
pub mod Transcript
pub mod WireState
pub mod DialState
pub mod Moves
pub mod KeeperState
pub mod Keeping
pub mod Dates
pub mod Framing
pub mod private

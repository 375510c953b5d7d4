-- What IMAP's FETCH tells of a message beside its octets.
pub mod Strings
pub mod Envelopes
pub mod Addresses
pub mod Fields
pub mod Chosen
pub mod Parts
pub mod Structures
pub mod Views
pub mod private

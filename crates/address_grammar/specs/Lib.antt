-- Phrases, addresses, paths and lists of addresses, as they are read.
pub mod Addresses
pub mod Paths
pub mod Phrases
pub mod AddressLists
pub mod Found
pub mod private

-- What the calls answer that keep indexes, and those that make a delivery.
pub mod Names
pub mod Chains
pub mod Delivering

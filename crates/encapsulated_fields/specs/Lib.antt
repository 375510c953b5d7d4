-- Fields that keep a value that has no form in ASCII of its own.
pub mod Encapsulated
pub mod AddressForms
pub mod Xtext

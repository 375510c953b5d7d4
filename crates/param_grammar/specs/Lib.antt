-- A main part with parameters, as it is read.
pub mod Escapes
pub mod Names
pub mod Extended
pub mod Bodies
pub mod Places
pub mod Joining
pub mod Placed
pub mod private

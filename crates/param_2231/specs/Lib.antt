-- A main part with parameters, as it is written in ASCII.
pub mod Layout
pub mod ParamsReadBack
pub mod GlobalTypes
pub mod WrittenParam
pub mod private

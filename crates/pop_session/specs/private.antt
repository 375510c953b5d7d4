-- What private functions answer.
pub mod Stuffing
pub mod Top
pub mod Asked
pub mod Saturated

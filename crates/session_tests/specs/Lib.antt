pub mod Echo
pub mod laws

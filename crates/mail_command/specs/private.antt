-- What private functions ask and answer.
pub mod Account
pub mod Few
pub mod Sizes
pub mod Sure

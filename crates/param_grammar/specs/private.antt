-- What private functions answer.
pub mod Marked
pub mod Beginning
pub mod Placing
pub mod Putting
pub mod ByName
pub mod Ordered
pub mod Slots
pub mod Roles

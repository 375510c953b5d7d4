-- What private functions answer.
pub mod Apps
pub mod Passwords

-- What private functions answer.
pub mod PlainSteps
pub mod ReceivedSteps
pub mod Views
pub mod Steps
pub mod Stretches
pub mod ByLength

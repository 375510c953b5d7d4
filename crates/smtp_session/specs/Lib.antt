-- SMTP: which replies and changes each command brings, and what is kept of accepted mail.
pub mod Intake
pub mod Loops
pub mod Machine
pub mod Room
pub mod Session
pub mod Trace
pub mod Transaction
pub mod laws
pub mod private

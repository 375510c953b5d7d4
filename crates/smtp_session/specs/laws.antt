-- Proofs: what holds of the lines of replies, and what the driver takes of SMTP.
pub mod SaidLines
pub mod SmtpLaws

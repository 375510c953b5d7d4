-- Proofs: what the commands of IMAP say, that the replies may be sent, and what the driver takes.
pub mod CommandLaws
pub mod ViewLaws
pub mod FitLaws
pub mod ImapLaws

-- Proofs: what the driver takes of POP3.
pub mod PopLaws

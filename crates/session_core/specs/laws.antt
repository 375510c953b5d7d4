-- Proofs: what holds of every protocol of rows.
pub mod FramedLaws

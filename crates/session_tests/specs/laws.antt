-- Proofs: what holds of the rows of the toy.
pub mod EchoLaws

-- Lemmas that several proofs share.
pub mod Kept

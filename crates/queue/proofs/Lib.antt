-- Lemmas that several proofs share.
pub mod Drained
pub mod DueOrder
pub mod Lookups
pub mod Ordered
pub mod Placed
pub mod Queued
pub mod Sorted

-- The up-counter: what it means as a clock, and what its making answers.
pub mod Up
pub mod UpCounters

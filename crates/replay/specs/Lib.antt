-- The replay program: what it answers to a call.
pub mod Answers
pub mod Layered

-- One slot: the limits of a job, its moments, and what calls and firings make of it.
pub mod Limits
pub mod Moment
pub mod Slots

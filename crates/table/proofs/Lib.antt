pub mod Soonest
pub mod Nearest
pub mod Planned
pub mod Least

-- A slower clock: its setting, and what it makes of the clock below.
pub mod Ratio
pub mod Rate
pub mod Rated

-- A widened clock: its setting, and what it makes of the clock below.
pub mod Bits
pub mod Widening
pub mod WidenedLemmas

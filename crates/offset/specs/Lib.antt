-- A shifted clock: its setting, and what it makes of the clock below.
pub mod Shift
pub mod Offset
pub mod ShiftedLemmas

-- Clocks and alarms: what they mean, and what each call answers and leaves.
pub mod Wrap
pub mod Meaning
pub mod Appointment
pub mod Kept
pub mod Hold
pub mod Calls
pub mod Making
pub mod Lead

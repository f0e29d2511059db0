-- The answers to a log of calls, as text.
pub mod Text

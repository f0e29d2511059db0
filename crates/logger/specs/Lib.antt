-- The logger: its state, and what each call answers and leaves.
pub mod State
pub mod Calls
pub mod Within
pub mod Making
pub mod Look
pub mod Choice

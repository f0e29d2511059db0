-- The down-counter: what it means as a clock, and what its making answers.
pub mod Down
pub mod DownCounters

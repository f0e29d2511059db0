-- The slot table: the slots that stand as the queue holds them, the first to come due, and the nearest.
pub mod Dues
pub mod Table

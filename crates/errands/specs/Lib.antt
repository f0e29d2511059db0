-- Errands in right use: what an errand that is put off answers and leaves.
pub mod Desk
pub mod Errands

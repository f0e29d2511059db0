-- Faults: the table of causes, and the text that a fault prints as.
pub mod Table
pub mod Text

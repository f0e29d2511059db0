-- One line of a script: what its words must be, the fault where one is not, what it is read as, and its text.
pub mod Line
pub mod Text

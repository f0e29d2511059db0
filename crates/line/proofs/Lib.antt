pub mod Back
pub mod Binds
pub mod Extents
pub mod Forth
pub mod Letters
pub mod Limits
pub mod Numbers

pub mod Earliness
pub mod Firings
pub mod Foretold
pub mod Rows

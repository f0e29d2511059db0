pub mod Laws
pub mod Loads
pub mod Pieces

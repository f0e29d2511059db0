pub mod Pages
pub mod Listed

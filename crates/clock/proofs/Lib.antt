pub mod Wrapping
pub mod Turning
pub mod Waiting
pub mod Setting
pub mod Keeping
pub mod Leading

pub mod Next
pub mod Hold
pub mod Fitting

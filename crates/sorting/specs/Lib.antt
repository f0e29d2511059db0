-- Records in order.
pub mod Sorting

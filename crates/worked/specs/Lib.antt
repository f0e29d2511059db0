-- The worked numbers, against the definitions that the contracts cite.
pub mod Cases

-- The listing of a script as text.
pub mod Listing

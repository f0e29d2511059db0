-- Books over lent rows.
pub mod Book

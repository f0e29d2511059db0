-- Queues over lent rows.
pub mod Due
pub mod Order
pub mod Queue
pub mod Row

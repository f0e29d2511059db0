-- Books and queues over lent rows: the definitions of the crates below, under this crate's name too.
pub use Rattle.book.specs.Book
pub use Rattle.queue.specs.Due
pub use Rattle.queue.specs.Order
pub use Rattle.queue.specs.Queue
pub use Rattle.queue.specs.Row
pub use Rattle.sorting.specs.Sorting

-- The promise about two loggers: runs of calls, the words to speak of them, the promise, and an example of what it speaks of.
pub mod Runs
pub mod Words
pub mod Promise
pub mod Example

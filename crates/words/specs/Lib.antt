-- Lines of text: the pieces of a text, its words, and the numbers among these.
pub mod Cuts
pub mod Words
pub mod Number

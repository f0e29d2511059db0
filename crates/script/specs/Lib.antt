-- Scripts: their lines or the first fault, the text of lines, and loading them.
pub mod Script
pub mod Lines
pub mod Text
pub mod Load

-- Jobs: what a firing makes of one, which slots are free, and the text of an action.
pub mod Jobs
pub mod Text

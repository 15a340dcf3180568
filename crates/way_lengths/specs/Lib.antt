-- Where ways begin and end, and which of them are least.
pub mod Ways

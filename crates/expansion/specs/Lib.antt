-- What is promised where a search goes on from a line.
pub mod Steps

-- Laws of the answers of the writer of points.
pub mod Answers
pub mod Writing

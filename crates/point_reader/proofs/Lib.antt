-- Laws of the answers of the reader of points.
pub mod Answers
pub mod OfMessages

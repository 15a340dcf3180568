-- Laws of text put into a buffer.
pub mod Putting
pub mod Digits
pub mod Refusals
pub mod Answers

-- What is promised of the legs that are read, and of the answer.
pub mod Ending

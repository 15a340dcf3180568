-- What is said of a stretch and of its lines.
pub mod Known
pub mod Stretch
pub mod Attributes

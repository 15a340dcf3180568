-- What is said of a front.
pub mod Front

-- What is said of text put into a buffer.
pub mod Put

-- What is said of buffers and of numbers in bytes.
pub mod Decides
pub mod Kept
pub mod Placed
pub mod Taken

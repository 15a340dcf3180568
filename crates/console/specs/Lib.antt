-- What is said of bytes handed to the system.
pub mod Handed

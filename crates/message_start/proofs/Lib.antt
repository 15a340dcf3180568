-- Laws of starting a message.
pub mod Starts

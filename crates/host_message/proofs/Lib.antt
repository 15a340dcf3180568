-- Laws of messages whose numbers have 32 bits.
pub mod Narrow
pub mod Starting

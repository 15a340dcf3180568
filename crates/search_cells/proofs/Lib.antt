-- Laws that the proofs of the functions cite.
pub mod Holding
pub mod Turns
pub mod Reached
pub mod Places
pub mod Keeping
pub mod Leaving
pub mod Resetting
pub mod Inserting
pub mod Sending
pub mod Listing
pub mod Nearness
pub mod Sums

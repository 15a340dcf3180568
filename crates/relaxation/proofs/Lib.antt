-- Laws that the proofs of the functions cite.
pub mod Growing
pub mod Queueing
pub mod Staying
pub mod Arriving
pub mod Relaxing
pub mod Sums

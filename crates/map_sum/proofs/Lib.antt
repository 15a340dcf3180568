-- Laws that the proofs of the functions cite.
pub mod Dots
pub mod Partials
pub mod Signed
pub mod Sums
pub mod Tables
pub mod Weighing

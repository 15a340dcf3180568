-- What the loops over the numbers of a sum need.
pub mod Sums

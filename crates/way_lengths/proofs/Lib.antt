-- Laws of lines that can follow, of ways, and of the sums of their lengths.
pub mod Follows
pub mod Plain
pub mod Sums

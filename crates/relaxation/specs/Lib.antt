-- A search that is under way, and what its smallest step promises.
pub mod Underway
pub mod Relaxed

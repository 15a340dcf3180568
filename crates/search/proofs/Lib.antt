-- Laws that the proofs of the functions cite.
pub mod SeedQueue
pub mod Seeding
pub mod Searching
pub mod Lengths

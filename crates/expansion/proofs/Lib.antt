-- Laws that the proofs of the functions cite.
pub mod Marking
pub mod AtPlace
pub mod Walking
pub mod Passing
pub mod Barred

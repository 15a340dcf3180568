-- What is promised of the legs of a reference, read one after another.
pub mod TerminusAt
pub mod Legs

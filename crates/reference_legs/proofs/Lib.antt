-- Laws of legs that are read one after another.
pub mod Gathering
pub mod OneMore
pub mod Candidates

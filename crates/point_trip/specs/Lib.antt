-- The claim of W5 about calls.
pub mod Told

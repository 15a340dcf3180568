-- What a finished search says.
pub mod Told

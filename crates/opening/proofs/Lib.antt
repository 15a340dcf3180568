-- Laws of an opened map.
pub mod Told

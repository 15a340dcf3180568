-- Laws of a reference's bytes, part by part.
pub mod Points
pub mod Cutting
pub mod Bytes

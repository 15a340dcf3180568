-- Laws of points written and read.
pub mod Handed

-- Laws of a point's bytes and its marks.
pub mod AsLine

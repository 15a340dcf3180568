-- What is promised of a point's bytes and its marks.
pub mod PointForm

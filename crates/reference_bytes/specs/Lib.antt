-- What is promised of the bytes of a reference.
pub mod Point
pub mod Put

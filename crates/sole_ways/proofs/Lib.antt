-- Laws of sole ways.
pub mod Slices
pub mod Sums
pub mod Sole
pub mod Steps
pub mod Walls
pub mod Walking
pub mod Parts
pub mod Working
pub mod Going
pub mod Rivals
pub mod Testing
pub mod Marks
pub mod Rows
pub mod RowLegs
pub mod Ordered

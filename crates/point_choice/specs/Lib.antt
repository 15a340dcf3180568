-- The choice of points, by where a stretch is cut.
pub mod Cuts
pub mod NotTested

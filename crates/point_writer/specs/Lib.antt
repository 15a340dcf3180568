-- What is said of a point as it is given.
pub mod PointChecks

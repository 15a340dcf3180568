-- What the tests of a stretch's legs promise one another.
pub mod LegTests
pub mod Leaving
pub mod Arrivals

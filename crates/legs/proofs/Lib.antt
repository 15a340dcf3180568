-- From ways of least length to the readings of a leg.
pub mod Joining
pub mod Readings
pub mod Lines
pub mod Verdicts
pub mod Searched

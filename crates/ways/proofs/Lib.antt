-- From the lengths and predecessors in the work area to ways.
pub mod Mirroring
pub mod Back
pub mod Written

-- Laws of the writer's definitions.
pub mod Stretches
pub mod Sums
pub mod Checks
pub mod Ends

-- Demand 3 as a claim about calls.
pub mod Trip
pub mod Given

-- Demand 3 over the definitions and the two contracts make the claim about calls.
pub mod Wrote
pub mod Handed

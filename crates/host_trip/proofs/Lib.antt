-- Demand 3 over the definitions and the contracts of the two functions make the claim about a C program's calls.
pub mod Answered
pub mod Handed
pub mod HandedPoint

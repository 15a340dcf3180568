-- Demand 3, and the claim of W5, as claims about a C program's calls.
pub mod Trip
pub mod PointTold

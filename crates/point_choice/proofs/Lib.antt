-- Laws of routes over good legs, and of the choice.
pub mod Routes
pub mod Scan
pub mod Walk
pub mod Choosing
pub mod NotTested
pub mod TestedLegs

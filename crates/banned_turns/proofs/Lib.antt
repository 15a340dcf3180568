-- Laws of the banned turns in the work area.
pub mod Chains
pub mod Putting
pub mod Fitting

-- Laws of fronts that are read and put.
pub mod Fronts
pub mod OnFront

-- Laws of a stretch's legs under test.
pub mod Slices
pub mod Sole
pub mod Termini
pub mod Trials
pub mod SoleLegs
pub mod Opening
pub mod Sifting
pub mod Walking
pub mod LeavingLists
pub mod ArrivalLists
pub mod Straight
pub mod FirstLeg

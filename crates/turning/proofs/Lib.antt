-- Laws of a map that is turned round.
pub mod LineEnds
pub mod Chains
pub mod Firsts
pub mod Pairs
pub mod Round
pub mod Straight

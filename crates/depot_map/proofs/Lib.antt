-- Laws of the work area and of what the map's bytes are, for the functions' proofs and for the crates above.
pub mod Adding
pub mod Parts
pub mod Ended
pub mod Whole
pub mod Stages
pub mod BanStages

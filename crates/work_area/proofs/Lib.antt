-- Laws of a work area that holds a map.
pub mod Held
pub mod Holding
pub mod Mirrored

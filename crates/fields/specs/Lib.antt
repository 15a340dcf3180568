-- What the answers of this crate say, by the definitions of crates/model/specs.
pub mod Difference
pub mod Leg
pub mod Offset
pub mod Sector

-- What the answers of this crate say, by the definitions of crates/model/specs.
pub mod Blocks

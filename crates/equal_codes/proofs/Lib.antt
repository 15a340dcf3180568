-- Laws of the chains of nodes in one bucket, and of equal codes.
pub mod Chains
pub mod EqualCodes

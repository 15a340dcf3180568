-- What the measured functions answer.
pub mod Refusal
pub mod Offsets

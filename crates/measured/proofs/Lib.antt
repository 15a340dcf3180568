-- Laws that the measured functions share.
pub mod Refused

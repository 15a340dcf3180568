-- What it is to open a map.
pub mod Opened

-- What it is to turn the map in the work area round.
pub mod Bans
pub mod Turned

-- What the map's functions promise: of the work area, of each part of the bytes, and of the whole map.
pub mod Part
pub mod Bans
pub mod Stage
pub mod Answer

-- Laws of a part of a buffer that holds an open reference.
pub mod Places
pub mod Rooms
pub mod Adding

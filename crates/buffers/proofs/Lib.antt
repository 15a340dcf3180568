-- Laws of buffers before and after a change, and of numbers in bytes.
pub mod Cases
pub mod Decides
pub mod Kept
pub mod Stored
pub mod Stores
pub mod Placing
pub mod Groups
pub mod Numbers
pub mod LineBytes
pub mod Lent
pub mod Got

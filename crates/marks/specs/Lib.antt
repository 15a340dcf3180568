-- What stands in the buffers that a call is lent.
pub mod Marks
pub mod Shown

-- What stands in the cells of searches, and what the functions over them promise.
pub mod Area
pub mod Promises

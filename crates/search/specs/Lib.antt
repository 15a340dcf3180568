-- What a search promises, and how it begins.
pub mod Promises
pub mod Seeds

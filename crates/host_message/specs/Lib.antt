-- How the C structs of a message are the definitions' records.
pub mod Held

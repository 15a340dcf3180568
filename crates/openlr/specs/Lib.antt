-- How the C structs are the definitions' records.
pub mod Host

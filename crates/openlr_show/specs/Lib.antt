-- What is said of the text that the program makes.
pub mod Made

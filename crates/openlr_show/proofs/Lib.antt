-- Laws of the text that the program makes.
pub mod Printed

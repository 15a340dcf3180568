-- What the parts of a file of cases are, and the sum over some numbers.
pub mod Part
pub mod Sum

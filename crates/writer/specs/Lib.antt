-- What the parts of the writer promise one another.
pub mod Found

-- Laws of a reference's form, of the search for a node and of the nodes of the points.
pub mod Form
pub mod Seeking
pub mod Located
pub mod Tracked

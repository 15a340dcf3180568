-- What is promised of a reference's bytes, of a search for a node, and of the points and legs.
pub mod Form
pub mod Formed
pub mod Node
pub mod Legs

-- What is said of the legs of a stretch that are sole ways, and of the search for them.
pub mod SoleWays

-- Where everything stands in the work area, and what it is to hold a map.
pub mod Mirror
pub mod Area
pub mod Held
pub mod Step

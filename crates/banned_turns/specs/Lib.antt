-- What is done to the banned turns in the work area.
pub mod Put

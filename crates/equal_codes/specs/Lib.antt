-- What the test of equal codes keeps in the work area.
pub mod Codes

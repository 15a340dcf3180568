-- What the functions that go through a message answer.
pub mod Entry

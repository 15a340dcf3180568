-- Laws of the legs that are read one after another, of the offsets' spans, and of the answers put together.
pub mod Ends
pub mod Answers
pub mod OfMessages

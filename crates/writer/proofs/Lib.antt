-- Laws of the writer's answers.
pub mod Answers
pub mod Writing

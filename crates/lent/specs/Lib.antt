pub mod Refusal
pub mod State
pub mod Answers

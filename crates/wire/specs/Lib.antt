pub mod Part
pub mod Number

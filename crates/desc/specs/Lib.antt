pub mod Layout
pub mod Desc

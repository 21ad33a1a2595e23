pub mod Table
pub mod Spots

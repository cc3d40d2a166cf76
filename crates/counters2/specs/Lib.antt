pub mod Clocks
pub mod Codes
pub mod Counts
pub mod Fields
pub mod Pairs
pub mod Table

pub mod Kinds
pub mod Line
pub mod Record
pub mod Run
pub mod Table

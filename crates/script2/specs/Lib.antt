pub mod Line
pub mod Record
pub mod Run

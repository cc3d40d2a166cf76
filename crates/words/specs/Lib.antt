pub mod Bytes
pub mod Table
pub mod Word

pub mod Nibbles
pub mod Saved

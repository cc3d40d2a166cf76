pub mod Control
pub mod Fate
pub mod Reply
pub mod Told

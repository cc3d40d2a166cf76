pub mod Layout
pub mod Places
pub mod Read
pub mod Write

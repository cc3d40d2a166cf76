pub mod Bank
pub mod Due

-- The laws that belong to no one function.
pub mod BlockLaws
pub mod RunLaws
pub mod TurnLaws

-- The laws that belong to no one function.
pub mod Answers
pub mod BoundaryLaws
pub mod Damage
pub mod FlipLaws
pub mod Flipped
pub mod SkipLaws
pub mod Whole

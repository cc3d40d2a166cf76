-- The laws that belong to no one function.
pub mod BoundLaws
pub mod CountLaws
pub mod QueueLaws
pub mod SendLaws
pub mod TableLaws

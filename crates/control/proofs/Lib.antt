-- The laws that belong to no one function.
pub mod FreshLaws
pub mod HeaderLaws
pub mod ReplyLaws
pub mod StatusLaws

-- The laws that belong to no one function.
pub mod FillLaws
pub mod LineLaws
pub mod RecordLaws

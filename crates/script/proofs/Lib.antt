-- The laws that belong to no one function.
pub mod KindLaws
pub mod LineLaws
pub mod RecordLaws
pub mod TableLaws
pub mod Theorems

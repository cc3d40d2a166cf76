-- The laws that belong to no one function.
pub mod ByteLaws
pub mod FillLaws
pub mod NumberLaws
pub mod PutLaws
pub mod ReplaceLaws
pub mod TableLaws
pub mod WordLaws

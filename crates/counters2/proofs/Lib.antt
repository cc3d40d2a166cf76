-- The laws that belong to no one function.
pub mod ClockLaws
pub mod FieldLaws
pub mod GrowLaws
pub mod PairLaws
pub mod TableLaws

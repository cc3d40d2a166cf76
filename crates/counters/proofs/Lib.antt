-- The laws that belong to no one function.
pub mod BitLaws
pub mod EachLaws
pub mod TickLaws

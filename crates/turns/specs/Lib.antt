pub mod Form
pub mod Run
pub mod Turn

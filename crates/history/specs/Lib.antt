pub mod Ledger
pub mod Run
pub mod Stream
pub mod Waiting

pub mod Counts2
pub mod Ledger2
pub mod Run2
pub mod Waiting2
pub mod Walk2

-- The laws and the theorems of demand 3 for the MultiKron II, of its settings after a list, and of how long a trigger waits.
pub mod Addresses2
pub mod Agrees2
pub mod Between2
pub mod CountLaws2
pub mod Counters2
pub mod DueLaws2
pub mod Fits2
pub mod Leaves2
pub mod Quiet2
pub mod Reads2
pub mod Steps2
pub mod StreamLaws2
pub mod Theorems2
pub mod Triggers2
pub mod Waiting2
pub mod Walks2
pub mod Writes2

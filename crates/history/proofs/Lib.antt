-- The laws and the theorems of demand 3, of the settings after a list, and of how long a trigger waits.
pub mod Addresses
pub mod Agrees
pub mod ControlLaws
pub mod CountLaws
pub mod Fits
pub mod HeldLaws
pub mod HoldsLaws
pub mod Leaves
pub mod RoomLaws
pub mod SendLaws
pub mod Steps
pub mod StreamLaws
pub mod Theorems
pub mod Triggers
pub mod WaitLaws
pub mod Waiting
pub mod Walks

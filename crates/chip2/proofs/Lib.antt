-- The laws that belong to no one function.
pub mod AddressLaws
pub mod Bounds
pub mod ChipLaws
pub mod HighOrder
pub mod Left
pub mod LineLaws
pub mod Refusals
pub mod Remains
pub mod Replies
pub mod Resets
pub mod RoomLaws
pub mod Sends
pub mod Shadows
pub mod TableLaws
pub mod Ticks
pub mod Words

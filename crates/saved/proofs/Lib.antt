pub mod NibbleLaws
pub mod SavedLaws

-- The laws that belong to no one function.
pub mod Decided
pub mod EditionLaws
pub mod Gather
pub mod Numbers
pub mod PlaceLaws
pub mod PutLaws
pub mod ReadLaws
pub mod RoundTrip
pub mod SampleLaws
pub mod Spread
pub mod Theorems
pub mod WriteLaws

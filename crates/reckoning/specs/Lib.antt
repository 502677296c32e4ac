-- The definitions that the contracts cite.
pub mod Lists
pub mod Parts
pub mod Standing
pub mod Plans
pub mod Sheets
pub mod Questions
pub mod Calls
pub mod Laws
pub mod Runs
pub mod Soundness
pub mod Masks
pub mod Cases

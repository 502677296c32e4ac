pub mod Answered
pub mod Asked
pub mod Checks
pub mod Lists
pub mod Rows
pub mod Served
pub mod Stars

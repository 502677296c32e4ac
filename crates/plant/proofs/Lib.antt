pub mod Carrying
pub mod First
pub mod Cells
pub mod Answers
pub mod Matchings
mod Turning
pub mod Writing

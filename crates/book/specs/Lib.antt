-- The definitions that the contracts cite.
pub mod Sites
pub mod Standing
pub mod Keys
pub mod Books
pub mod Moves
pub mod Walks
pub mod Courses
pub mod Refusals
pub mod Calls

pub mod Faults
pub mod Laws
pub mod Lines
pub mod Meaning
pub mod Numbers
pub mod Refusals
pub mod Requests
pub mod Words

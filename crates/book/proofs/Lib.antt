mod Rows
mod Tables
mod Lit
mod Walking
mod Choosing
mod Free
mod Ordering
pub mod Asking
mod Preparing
mod Admitting
mod Quoting
mod Releasing
mod Listing
mod Listed

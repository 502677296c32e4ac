-- The definitions that the contracts cite.
pub mod Checks
pub mod Network
-- The proofs of the laws of layouts, which an `impl` can cite from here alone.
pub mod Verdicts
pub mod Lit
pub mod Stars
pub mod Splitters

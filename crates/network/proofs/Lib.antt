-- The lemmas, by subject.
pub mod Laws

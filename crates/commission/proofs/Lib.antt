mod Counts
mod Ranges

pub mod Compact
pub mod Lines
pub mod NumberWords
pub mod Plainness
pub mod ReadBack
pub mod SpacedWords
pub mod Spelling

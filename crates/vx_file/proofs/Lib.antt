pub mod FileApplied
pub mod FileLists
pub mod InTurn

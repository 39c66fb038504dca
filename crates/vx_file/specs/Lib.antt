pub mod FileReads
pub mod FileValues
pub mod RegionsFile

pub mod AllFound
pub mod Dividing
pub mod Gathering
pub mod Joining
pub mod Sharing

pub mod Consistency
pub mod Linked
pub mod Pending
pub mod Repairs
pub mod Sights

pub mod Areas
pub mod Around
pub mod Laws
pub mod Places

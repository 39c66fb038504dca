pub mod Domain
pub mod Standing

pub mod Changing
pub mod Going
pub mod Onward
pub mod Putting
pub mod Renewals
pub mod Sparing

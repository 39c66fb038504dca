pub mod ClaimLaws
pub mod Claims
pub mod Laws
pub mod Moves

pub mod Events
pub mod Laws
pub mod Machines
pub mod Outcomes

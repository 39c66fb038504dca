pub mod ChestParting
pub mod CodeLemmas
pub mod MarkedPlaces
pub mod Marks
pub mod Outside
pub mod Paging
pub mod Stacks

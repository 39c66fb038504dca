pub mod Filling
pub mod Fitting
pub mod Leading
pub mod Reaching
pub mod Soundness

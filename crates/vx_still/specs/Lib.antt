pub mod Mirrored
pub mod Stillness
pub mod Telling
pub mod Unheeded
pub mod Watching
pub mod Waking

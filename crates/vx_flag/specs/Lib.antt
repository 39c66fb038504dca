pub mod Action
pub mod Flag
pub mod Group
pub mod SameSettings
pub mod Settings
pub mod SettingsLaws
pub mod State

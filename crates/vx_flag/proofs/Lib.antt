pub mod Own
pub mod SettingLemmas

pub mod SettingOf

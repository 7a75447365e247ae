pub mod Audit
pub mod Setting

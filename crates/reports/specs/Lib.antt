pub mod Scatter
pub mod Asking

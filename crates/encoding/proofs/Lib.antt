pub mod Reading
pub mod Grouped
pub mod WhichCall

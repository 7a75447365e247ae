pub mod Picks
pub mod Planned
pub mod Keys
pub mod Walk

pub mod HeldBy
pub mod Taking
pub mod Stirring
pub mod Handed
pub mod Rules
pub mod InTable
pub mod Sweeping
pub mod Apart

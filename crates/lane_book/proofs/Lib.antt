pub mod InLanes
pub mod Fresh

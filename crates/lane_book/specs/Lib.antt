pub mod InLanes
pub mod LaneBook

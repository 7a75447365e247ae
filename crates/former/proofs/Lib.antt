pub mod Former
pub mod OneRule
pub mod Ages

pub mod OneRule
pub mod Former

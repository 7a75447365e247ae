pub mod WeighBook
pub mod Conservation

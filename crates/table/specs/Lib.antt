pub mod Pieces
pub mod Table
pub mod Closing

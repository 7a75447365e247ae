pub mod Pieces
pub mod Table
pub mod ClosingUp
pub mod Tests
pub mod AllPieces

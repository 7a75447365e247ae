pub mod Lifting
pub mod Remainder
pub mod Applying
pub mod Moving
pub mod SharedOut
pub mod Parted
pub mod Stirred

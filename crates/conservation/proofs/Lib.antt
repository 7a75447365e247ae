pub mod WeighLaws
pub mod Beside
pub mod Lists
pub mod Alike
pub mod Unstirred

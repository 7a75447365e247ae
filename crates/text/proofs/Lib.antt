-- Laws that belong to no one function.
pub mod TextLaws
pub mod Decimal
pub mod NumberLaws

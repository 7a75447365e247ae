pub mod VectorLaws
pub mod Output

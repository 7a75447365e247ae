-- Laws that belong to no one function.
pub mod LayoutLaws
pub mod ByteLaws
pub mod GroupLaws
pub mod ChunkLaws
pub mod EntryLaws
pub mod PutLaws
pub mod BackLaws
pub mod NameLaws
pub mod WhichNames
pub mod ShortNames

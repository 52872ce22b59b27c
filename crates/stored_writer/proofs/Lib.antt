pub mod PutLaws
pub mod WholeLaws

pub mod PadLaws
pub mod QuadLaws
pub mod WindowLaws
pub mod BlockLaws
pub mod SpongeLaws
pub mod SqueezeLaws

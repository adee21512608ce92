pub mod TypeRows
pub mod Decls
pub mod AllTypes
pub mod StringRows
pub mod Sizes
pub mod Single

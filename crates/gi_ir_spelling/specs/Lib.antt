pub mod Examples
pub mod Grammar
pub mod Items
pub mod Reading
pub mod Words

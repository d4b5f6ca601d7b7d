pub mod Defining
pub mod Noting
pub mod Paging

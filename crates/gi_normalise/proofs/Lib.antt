pub mod Clear
pub mod Firsts
pub mod Forward
pub mod Going
pub mod Lasts
pub mod Standing
pub mod Weighed

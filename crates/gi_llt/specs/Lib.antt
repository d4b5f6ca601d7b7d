pub mod Bits
pub mod Llt
pub mod Tokens
pub mod Signs

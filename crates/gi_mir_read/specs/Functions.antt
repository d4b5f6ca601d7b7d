pub mod Blocked
pub mod Bodies
pub mod Implied
pub mod Noted
pub mod ReadBlocks

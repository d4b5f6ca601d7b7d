pub mod Computing
pub mod Copies
pub mod Dead
pub mod Good
pub mod Stages

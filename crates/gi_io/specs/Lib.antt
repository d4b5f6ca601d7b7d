pub mod Calls
pub mod Faults
pub mod Files
pub mod MemorySink
pub mod MemorySource
pub mod Opened
pub mod StandardSink
pub mod Writing

pub mod BeginningLemmas
pub mod CountLemmas
pub mod DocumentLemmas
pub mod EntryLemmas
pub mod KeyLemmas
pub mod StackLemmas

pub mod ConstantLemmas
pub mod EachLemmas
pub mod FirstLemmas
pub mod FormedLemmas
pub mod MeantLemmas
pub mod NamingLemmas

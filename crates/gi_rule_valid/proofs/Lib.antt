pub mod Calls
pub mod InPlace
pub mod Lists
pub mod Origins
pub mod Targets
pub mod Typed
pub mod Valid

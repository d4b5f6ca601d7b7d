mod FoundFiles
mod Prefixes

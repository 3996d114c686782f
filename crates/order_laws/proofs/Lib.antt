mod Once
mod Prefixes
mod Examples

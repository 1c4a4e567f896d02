pub mod Scanned
pub mod Places

pub mod Rewrite
pub mod RewriteLaws

pub mod Compose
pub mod ComposeLaws

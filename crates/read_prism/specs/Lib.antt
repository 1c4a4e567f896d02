pub mod Prism
pub mod PrismLaws

pub mod Prices
pub mod Adding
pub mod PricesLaws
pub mod AddingLaws

pub mod CostsRead

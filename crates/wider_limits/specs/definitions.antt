-- What a buyer reads and believes.
pub mod Wider

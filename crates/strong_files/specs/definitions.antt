-- What a buyer reads and believes.
pub mod StrongFile
pub mod StrongSays
pub mod StrongPairs
pub mod StrongAnswer

-- What a buyer reads and believes.
pub mod LargestPair
pub mod FewFlows
pub mod LargestAnswer

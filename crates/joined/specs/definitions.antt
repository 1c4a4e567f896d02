-- What a buyer reads and believes.
pub mod Joined
pub mod JoinAnswer
pub mod AlikeAnswer

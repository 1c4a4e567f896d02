pub mod Join
pub mod JoinLaws

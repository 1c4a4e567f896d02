-- What a buyer reads and believes.
pub mod Composition
pub mod Hiding
pub mod ComposeAnswer
pub mod HideAnswer

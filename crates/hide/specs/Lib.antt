pub mod Members
pub mod MembersLaws
pub mod Hide
pub mod HidingFile
pub mod HideLaws

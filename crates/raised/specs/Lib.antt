pub mod Raised
pub mod RaisedLaws

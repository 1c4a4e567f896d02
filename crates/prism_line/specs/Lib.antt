pub mod LineRead
pub mod LineParts
pub mod LineLaws

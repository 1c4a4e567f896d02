-- What a buyer reads and believes.
pub mod Sheet
pub mod SheetAnswer

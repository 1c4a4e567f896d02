-- What a buyer reads and believes.
pub mod Lines
pub mod Reading
pub mod HeldModel
pub mod AllowedText
pub mod HeldText
pub mod WrittenText
pub mod PrismAnswer

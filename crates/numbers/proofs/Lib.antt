pub mod argument

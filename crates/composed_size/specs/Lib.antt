pub mod Sides
pub mod SideProps
pub mod Composable
pub mod Counted
pub mod CountedLaws

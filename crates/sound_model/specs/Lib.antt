pub mod KnownProps

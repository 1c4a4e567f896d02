-- What a buyer reads and believes.
pub mod Rewritten
pub mod RewriteAnswer

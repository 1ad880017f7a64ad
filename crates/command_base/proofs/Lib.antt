pub mod Lives
pub mod Reports
pub mod Rows

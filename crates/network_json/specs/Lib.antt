pub mod NetworkJson
pub mod Steps

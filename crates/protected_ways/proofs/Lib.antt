pub mod GivenOn
pub mod Protected

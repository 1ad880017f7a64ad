pub mod SameFile
pub mod PassedOn

pub mod BitList
pub mod Register

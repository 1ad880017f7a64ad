pub mod Ends
pub mod Keys
pub mod Kinds
pub mod Lines
pub mod Values
pub mod NumberTests
pub mod Seen
pub mod Steps

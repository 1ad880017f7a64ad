pub mod Ranges
pub mod RisingSlots
pub mod Zeros

pub mod Bursts
pub mod Counts
pub mod LineSlots
pub mod SlotList
pub mod TrailTrace

pub mod Loans
pub mod SlotPlaces
pub mod Steps

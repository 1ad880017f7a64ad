pub mod Forms
pub mod SlotTexts
pub mod WordLists

mod Lists
mod SlotTexts
mod Forms

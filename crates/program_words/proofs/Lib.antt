pub mod FileLists
mod WordTexts

pub mod AnswerWords
pub mod Beyond
pub mod Codes
pub mod Device
pub mod Ends
pub mod Gains
pub mod StatusText
pub mod Steps

pub mod Words
pub mod Answers
pub mod Choice
pub mod Opened
pub mod Outcomes

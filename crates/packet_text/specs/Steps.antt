-- What private contracts alone cite: the steps of functions. No promise stands on them.
pub mod DigitMarks
pub mod Carrying
pub mod Cutting
pub mod Finding

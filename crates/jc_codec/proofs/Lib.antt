pub mod HeardBack
pub mod Hears
pub mod OneRow
pub mod Turned

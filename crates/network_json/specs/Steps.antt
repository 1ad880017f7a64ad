-- What private contracts alone cite: the steps of functions. No promise stands on them.
pub mod Entries

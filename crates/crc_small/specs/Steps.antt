-- What private contracts alone cite: the steps of functions. No promise stands on them.
pub mod Folding
pub mod LookUp
pub mod Shifted
pub mod Window

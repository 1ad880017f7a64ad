pub mod Modulo
pub mod Turns
pub mod OfLines
pub mod ProtectTurns
pub mod ProtectEnds
pub mod Carried
pub mod ReadsBack

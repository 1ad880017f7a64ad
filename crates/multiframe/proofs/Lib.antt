pub mod Examples
pub mod LeastStart
pub mod TurnLaw

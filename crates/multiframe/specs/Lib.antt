pub mod LineTurns
pub mod Alignment
pub mod TurnPieces

pub mod NodeView
pub mod Stands
pub mod NodeMoves
pub mod Built
pub mod Steps

pub mod TextLines
pub mod PacketText
pub mod Cutting
pub mod LinesStand
pub mod Laws
pub mod Steps

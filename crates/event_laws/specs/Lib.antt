pub mod ViewOf
pub mod Laws

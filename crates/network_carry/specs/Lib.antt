pub mod Carried
pub mod Ends
pub mod Fillings
pub mod Opening
pub mod Outside

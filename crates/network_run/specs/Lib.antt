pub mod Beginning
pub mod EdgePorts
pub mod Ending
pub mod FibreSinks
pub mod Fibres
pub mod Going
pub mod Serving
pub mod Sites

pub mod Marks
pub mod Psi

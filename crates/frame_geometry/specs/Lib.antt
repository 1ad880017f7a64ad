pub mod Loans
pub mod PayloadParity
pub mod Places

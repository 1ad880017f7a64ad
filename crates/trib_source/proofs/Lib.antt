pub mod Counts
pub mod Laid
pub mod RowsPut
pub mod RowsLaid
pub mod Begun
pub mod Filled
pub mod Unput

pub mod NumberOrder

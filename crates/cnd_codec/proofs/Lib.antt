pub mod HeardRest

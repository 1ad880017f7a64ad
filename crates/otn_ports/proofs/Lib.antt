pub mod AheadLaws
pub mod SpoilLaws

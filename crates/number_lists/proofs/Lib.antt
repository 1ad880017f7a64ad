pub mod NumberLists
mod Reading

pub mod ClientLists

pub mod ComesOut

pub mod DamagedWays

pub mod ProtectedWays

-- API: places with bounded sinks that have failed.
use Rattle.std.specs.Prelude.{◌≡◌, ◌<◌, ℕ, List, length, Some}
use Rattle.port_base.specs.Views.{BaysView, line_out_at, client_out_at}

-- Each output place of a device whose port has failed is full: it has got as many bytes as there is room for.
pub record FailsFull (room : ℕ) (bays : BaysView) : Type 0 where
  pub line : (b : ℕ) (got : List ℕ) → 0 < (line_out_at bays b).faults → (line_out_at bays b).got ≡ Some got
      → length got ≡ room
  pub client : (n : ℕ) (got : List ℕ) → 0 < (client_out_at bays n).faults → (client_out_at bays n).got ≡ Some got
      → length got ≡ room

-- Believed: what a report gains where a write of it fails.
use Rattle.std.specs.Prelude.{◌≡◌, ◌<◌, ℕ, List, Option, length, take}
use Rattle.port_base.specs.Bytes.{after}

-- a report gained a part of these bytes, from the front, and not all
pub record GainsPart (old new : Option (List ℕ)) (bytes : List ℕ) : Type 0 where
  pub written : ℕ
  pub part : written < length bytes
  pub gained : new ≡ after old (take written bytes)

-- Steps of `drain` and `write`: what private contracts alone cite, beside the definitions of `Writing`.
use Rattle.std.specs.Prelude.{ℕ, ◌≡◌, List, ◌++◌, Option}
use Rattle.port_base.specs.Bytes.{after}

-- bytes went from the front of a rest to a sink
pub record Went (old : List ℕ) (before' : Option (List ℕ)) (new : List ℕ) (now : Option (List ℕ)) : Type 0 where
  pub written : List ℕ
  pub parts : old ≡ written ++ new
  pub got : now ≡ after before' written

-- Steps of `pair_of`: what private contracts alone cite, beside the definitions of `Pairs`.
use Rattle.std.specs.Prelude.{ℕ, Option, Some, None}
use Rattle.tributary_model.specs.declared.turns.Standing.{Standing}
use Rattle.tributary_model.specs.declared.turns.Standing.TheVariants.{Waiting, Down, Up}

-- the same, by how the sink stands
abbrev pub pair_of_standing : Standing → Option (ℕ × ℕ)
pair_of_standing (Waiting n) = None
pair_of_standing Down = None
pair_of_standing (Up said) = Some (said.cm, said.cnd)

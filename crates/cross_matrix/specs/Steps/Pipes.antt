-- Steps of `pipe_of`, `taking_part` and others: what private contracts alone cite, beside the definitions of `Pipes`.
use Rattle.std.specs.Prelude.{◌≡◌, ◌≤◌, ◌*◌, ℕ, All, length}
use Rattle.otn_base.specs.LineSlots.{LineSlots, slots_of}
use Rattle.otn_base.specs.declared.limits.TheConstants.{GROUPS}
use Rattle.plan_file.specs.declared.connection.Connection.{Connection}
use Rattle.plan_file.specs.declared.connection.FromEnd.TheVariants as from_end
use Rattle.plan_file.specs.declared.connection.ToEnd.TheVariants as to_end
use Rattle.device_model.specs.Entries.{slot_count}

-- What a pipe needs of its entry: the tributary port of a line is one of it, both line ends have as many slots, and no
-- pace brings more groups than a multiframe has.
pub record IsFit (x : Connection) : Type 0 where
  pub port : (a port : ℕ) (slots : LineSlots) → x.from ≡ from_end.Line a port slots
      → (1 ≤ port) × (port ≤ slots_of slots.kind)
  pub given : (b port : ℕ) (slots : LineSlots) → x.to ≡ to_end.Line b port slots → length slots.list ≡ slot_count x
  pub paces : All (λ pace. pace ≤ slot_count x * GROUPS) x.pace

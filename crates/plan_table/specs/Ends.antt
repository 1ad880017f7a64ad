-- Believed: the ends of a connection in a table: the values of `from` and `to`, and the form that each takes.
use Rattle.std.specs.Prelude.{ℕ, List, Bool, true, false, ◌&&◌, if◌then◌else◌, Option, is_some, codes}
use Rattle.std.specs.Option.{option_map}
use Rattle.toml.specs.Data.{Data, get, as_table}
use Rattle.plan_table.specs.declared.ends.Side.{Side}
use Rattle.plan_table.specs.declared.ends.Side.TheVariants.{From, To}
use Rattle.plan_table.specs.declared.ends.Form.{Form}
use Rattle.plan_table.specs.declared.ends.Form.TheVariants.{Client, Signal, Line}

-- the value is a table
abbrev pub is_table : Data → Bool
is_table value = is_some (as_table value)

-- the value is a table with the key
abbrev pub has : List ℕ → Data → Bool
has key value = is_some (get key value)

-- the key of an end: `from` or `to`
abbrev pub side_key : Side → List ℕ
side_key From = codes "from"
side_key To = codes "to"

-- only a connection's `from` can be a signal
abbrev pub can_be_signal : Side → Bool
can_be_signal From = true
can_be_signal To = false

-- an end at a client where it has the key `client`, else a signal where it has the key `signal`, else an end at a line
abbrev pub form_of : Side → Data → Form
form_of side value = if has (codes "client") value then Client else if can_be_signal side && has (codes "signal") value
    then Signal else Line

-- a value of `from` or `to`
pub record TableEnd : Type 0 where
  pub form : Form
  pub value : Data

-- what the connection has as this end, if anything
abbrev pub end_at : Side → Data → Option TableEnd
end_at side connection = option_map (λ value. record { form = form_of side value; value = value })
    (get (side_key side) connection)

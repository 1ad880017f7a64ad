-- Believed: the kinds of a plan's values: what each key's value has to be.
use Rattle.std.specs.Prelude.{ℕ, pos, List, Bool, true, false, ◌&&◌, ◌||◌, is_some, codes}
use Rattle.std.specs.Option.{option_map_or}
use Rattle.std.specs.Str.{bytes_eq}
use Rattle.toml.specs.Data.{Data, Items, no_items, item, get, get_member, Members, as_str, as_integer, as_bool, as_array}
use Rattle.plan_table.specs.declared.ends.Form.{Form}
use Rattle.plan_table.specs.declared.ends.Form.TheVariants.{Client, Signal, Line}
use Rattle.plan_table.specs.declared.ends.Side.TheVariants.{From, To}
use Rattle.plan_table.specs.Ends.{is_table, TableEnd, end_at}
use Rattle.plan_table.specs.Keys.{is_this_number}

-- a number
abbrev pub is_number : Data → Bool
is_number value = is_some (as_integer value)

-- a truth value
abbrev pub is_truth : Data → Bool
is_truth value = is_some (as_bool value)

-- a text
abbrev pub is_text : Data → Bool
is_text value = is_some (as_str value)

-- each item passes the test
abbrev pub each_item : (Data → Bool) → Items → Bool
each_item test no_items = true
each_item test (item value rest) = test value && each_item test rest

-- a list of numbers
abbrev pub is_number_list : Data → Bool
is_number_list value = option_map_or (each_item is_number) (as_array value) false

-- a list of tables
abbrev pub is_table_list : Data → Bool
is_table_list value = option_map_or (each_item is_table) (as_array value) false

-- one of two texts
abbrev pub is_either : List ℕ → List ℕ → Data → Bool
is_either one other value = option_map_or (λ text. bytes_eq text one || bytes_eq text other) (as_str value) false

-- the number of a version, 1 or 2
abbrev pub is_version : Data → Bool
is_version value = is_this_number (pos 1) value || is_this_number (pos 2) value

-- the value of `kind`: `odu0` or `flex`
abbrev pub is_kind : Data → Bool
is_kind = is_either (codes "odu0") (codes "flex")

-- the value of `signal`: `oci` or `lck`
abbrev pub is_signal : Data → Bool
is_signal = is_either (codes "oci") (codes "lck")

-- what the value has at the key, if anything, passes the test
abbrev pub each_at : List ℕ → (Data → Bool) → Data → Bool
each_at key test value = option_map_or test (get key value) true

-- an end at a line
abbrev pub is_line_end : Data → Bool
is_line_end end = (each_at (codes "line") is_number end && each_at (codes "port") is_number end)
    && each_at (codes "slots") is_number_list end

-- an end of the form
abbrev pub has_form : Form → Data → Bool
has_form Client end = each_at (codes "client") is_number end
has_form Signal end = each_at (codes "signal") is_signal end
has_form Line end = is_line_end end

-- the value of `from` or `to`: a table of one of the forms
abbrev pub is_end : TableEnd → Bool
is_end end = is_table end.value && has_form end.form end.value

-- the values of the keys that each connection has
abbrev pub has_plain_kinds : Data → Bool
has_plain_kinds connection =
    (each_at (codes "name") is_text connection && each_at (codes "kind") is_kind connection)
    && (option_map_or is_end (end_at From connection) true && option_map_or is_end (end_at To connection) true)

-- the values of the keys of a pace, of a client input, of a span and of its end
abbrev pub has_other_kinds : Data → Bool
has_other_kinds connection =
    ((each_at (codes "pace") is_number_list connection && each_at (codes "fcs") is_truth connection)
    && each_at (codes "trace") is_text connection)
    && ((each_at (codes "start") is_number connection && each_at (codes "stop") is_number connection)
    && each_at (codes "retire") is_truth connection)

-- each value of a connection is of its key's kind
abbrev pub has_kinds : Data → Bool
has_kinds connection = has_plain_kinds connection && has_other_kinds connection

-- what the top has at the key, if anything, passes the test
abbrev pub top_each_at : List ℕ → (Data → Bool) → Members → Bool
top_each_at key test top = option_map_or test (get_member key top) true

-- the lists of lines
abbrev pub has_line_list_kinds : Members → Bool
has_line_list_kinds top =
    (top_each_at (codes "otu3-in") is_number_list top && top_each_at (codes "otu3-out") is_number_list top)
    && (top_each_at (codes "scrambled-in") is_number_list top && top_each_at (codes "scrambled-out") is_number_list top)

-- each value of the top is of its key's kind
abbrev pub has_top_kinds : Members → Bool
has_top_kinds top =
    ((top_each_at (codes "version") is_version top && top_each_at (codes "turns") is_number top)
    && top_each_at (codes "connection") is_table_list top)
    && has_line_list_kinds top

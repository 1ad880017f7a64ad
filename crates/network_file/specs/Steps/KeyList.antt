-- Steps of `lists`, `knows_all` and others: the lists of keys, by the names that the code has for them.
use Rattle.std.specs.Prelude.{ℕ, List}
use Rattle.network_file.specs.declared.table.known.KeyList.{KeyList}
use Rattle.network_file.specs.declared.table.known.KeyList.TheVariants as of
use Rattle.network_file.specs.Keys.{top_keys, node_keys, fibre_keys, end_keys, cut_keys}

-- the keys of the list with this name
abbrev pub keys_in : KeyList → List (List ℕ)
keys_in of.Top = top_keys
keys_in of.Node = node_keys
keys_in of.Fibre = fibre_keys
keys_in of.End = end_keys
keys_in of.Cut = cut_keys

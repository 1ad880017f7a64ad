-- Steps of `top_list`, `connection_list` and others: the lists of keys, by the names that the code has for them.
use Rattle.std.specs.Prelude.{ℕ, List, true, false}
use Rattle.plan_table.specs.declared.keys.list.KeyList.{KeyList}
use Rattle.plan_table.specs.declared.keys.list.KeyList.TheVariants as of
use Rattle.plan_table.specs.Keys.{top_keys, client_keys, signal_keys, line_keys, connection_keys}

-- the keys of the list with this name
abbrev pub keys_in : KeyList → List (List ℕ)
keys_in of.Top = top_keys false
keys_in of.TopOfSecond = top_keys true
keys_in of.FromClient = connection_keys true true
keys_in of.FromSignal = connection_keys true false
keys_in of.FromLine = connection_keys false false
keys_in of.Client = client_keys
keys_in of.Signal = signal_keys
keys_in of.Line = line_keys

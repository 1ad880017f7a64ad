-- Believed: the keys of a plan's tables: which a table may have, and which it must have.
use Rattle.std.specs.Prelude.{ℕ, ℤ, pos, List, [], ◌∷◌, ◌++◌, Bool, true, false, not, ◌&&◌, ◌||◌, if◌then◌else◌, codes}
use Rattle.std.specs.List.{list_any}
use Rattle.std.specs.Option.{option_map_or}
use Rattle.std.specs.Ordering.{int_eq}
use Rattle.std.specs.Str.{bytes_eq}
use Rattle.toml.specs.Data.{Data, Members, no_members, member, get_member, as_integer, as_table}
use Rattle.plan_table.specs.declared.ends.Form.{Form}
use Rattle.plan_table.specs.declared.ends.Form.TheVariants.{Client, Signal, Line}
use Rattle.plan_table.specs.declared.ends.Side.TheVariants.{From, To}
use Rattle.plan_table.specs.Ends.{is_table, has, TableEnd, end_at}

-- ---- the lists of keys

-- the keys of the lists of lines, which the top has in version 2 alone
abbrev pub line_list_keys : List (List ℕ)
line_list_keys = codes "otu3-in" ∷ codes "otu3-out" ∷ codes "scrambled-in" ∷ codes "scrambled-out" ∷ []

-- the keys of the top, in version 2 or not
abbrev pub top_keys : Bool → List (List ℕ)
top_keys is_second = (codes "version" ∷ codes "turns" ∷ codes "connection" ∷ [])
    ++ (if is_second then line_list_keys else [])

-- the keys of an end at a client
abbrev pub client_keys : List (List ℕ)
client_keys = codes "client" ∷ []

-- the keys of an end that is a signal
abbrev pub signal_keys : List (List ℕ)
signal_keys = codes "signal" ∷ []

-- the keys of an end at a line
abbrev pub line_keys : List (List ℕ)
line_keys = codes "line" ∷ codes "port" ∷ codes "slots" ∷ []

-- the keys of a connection, where it may have a pace, and where it may have what belongs to a client input
abbrev pub connection_keys : Bool → Bool → List (List ℕ)
connection_keys paced from_client = (codes "name" ∷ codes "kind" ∷ codes "from" ∷ codes "to" ∷ codes "start"
    ∷ codes "stop" ∷ codes "retire" ∷ [])
    ++ ((if paced then codes "pace" ∷ [] else [])
    ++ (if from_client then codes "fcs" ∷ codes "trace" ∷ [] else []))

-- ---- which list a table has

-- the value is this number
abbrev pub is_this_number : ℤ → Data → Bool
is_this_number wanted value = option_map_or (λ number. int_eq number wanted) (as_integer value) false

-- the version of the table is 2
abbrev pub is_second_version : Members → Bool
is_second_version top = option_map_or (is_this_number (pos 2)) (get_member (codes "version") top) false

-- the list of an end
abbrev pub end_keys : Form → List (List ℕ)
end_keys Client = client_keys
end_keys Signal = signal_keys
end_keys Line = line_keys

-- the list of a connection from an end of the form: a pace only from a client or a signal, what belongs to a client
-- input only from a client
abbrev pub form_keys : Form → List (List ℕ)
form_keys Client = connection_keys true true
form_keys Signal = connection_keys true false
form_keys Line = connection_keys false false

-- the list of a connection: `from` decides where it is a table
abbrev pub keys_from : TableEnd → List (List ℕ)
keys_from end = if is_table end.value then form_keys end.form else connection_keys true true

-- the same of a connection, which may lack its `from`
abbrev pub keys_of_connection : Data → List (List ℕ)
keys_of_connection connection = option_map_or keys_from (end_at From connection) (connection_keys true true)

-- ---- a key that is not known

-- the list has the key
abbrev pub lists : List (List ℕ) → List ℕ → Bool
lists keys key = list_any (bytes_eq key) keys

-- each key of the table is in the list
abbrev pub knows_all : List (List ℕ) → Members → Bool
knows_all keys no_members = true
knows_all keys (member key value rest) = lists keys key && knows_all keys rest

-- the top has a key that is not in its list
abbrev pub has_unknown_top_key : Members → Bool
has_unknown_top_key top = not (knows_all (top_keys (is_second_version top)) top)

-- the value is a table with a key that is not in the list
abbrev pub has_other : List (List ℕ) → Data → Bool
has_other keys value = option_map_or (λ members. not (knows_all keys members)) (as_table value) false

-- the end is a table with a key that is not in the list of its form
abbrev pub end_has_other : TableEnd → Bool
end_has_other end = has_other (end_keys end.form) end.value

-- the connection, its `from` or its `to` is a table with a key that is not in its list
abbrev pub has_unknown_key : Data → Bool
has_unknown_key connection =
    (has_other (keys_of_connection connection) connection
    || option_map_or end_has_other (end_at From connection) false)
    || option_map_or end_has_other (end_at To connection) false

-- ---- a key that is missing

-- the value is a table without the key
abbrev pub lacks : List ℕ → Data → Bool
lacks key value = is_table value && not (has key value)

-- the value is a table without a key of an end at a line
abbrev pub lacks_line_key : Data → Bool
lacks_line_key end = (lacks (codes "line") end || lacks (codes "port") end) || lacks (codes "slots") end

-- the short forms lack nothing
abbrev pub form_lacks_key : Form → Data → Bool
form_lacks_key Line end = lacks_line_key end
form_lacks_key _ end = false

-- the end lacks a key of its form
abbrev pub end_lacks_key : TableEnd → Bool
end_lacks_key end = form_lacks_key end.form end.value

-- the connection is a table and lacks a key of its own
abbrev pub lacks_own_key : Data → Bool
lacks_own_key connection =
    (lacks (codes "name") connection || lacks (codes "kind") connection)
    || (lacks (codes "from") connection || lacks (codes "to") connection)

-- the connection, its `from` or its `to` is a table and lacks a key
abbrev pub lacks_key : Data → Bool
lacks_key connection =
    (lacks_own_key connection
    || option_map_or end_lacks_key (end_at From connection) false)
    || option_map_or end_lacks_key (end_at To connection) false

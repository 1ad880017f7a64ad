-- API: ports in memory that fail at listed calls.
use Rattle.std.specs.Prelude.{◌≡◌, ℕ, Bool, true, false, ◌||◌, nat_eq, min, List, [], ◌∷◌, length, Result, Ok, IsErr}
use Rattle.port_base.specs.Memory.{memory_left, memory_ended, memory_got, memory_room, TakesWhatFits}
use Rattle.otn_ports.specs.declared.listed_calls.ListedCalls.{ListedCalls}
use Rattle.otn_ports.specs.declared.listed_sink.ListedSink.{ListedSink}
use Rattle.otn_ports.specs.declared.listed_source.ListedSource.{ListedSource}
use Rattle.port_base.specs.declared.source.Failed.{Failed}

-- whether the number stands in the list
abbrev pub is_listed : List ℕ → ℕ → Bool
is_listed [] number = false
is_listed (listed ∷ rest) number = nat_eq listed number || is_listed rest number

-- how many calls were made
abbrev pub calls_made : ListedCalls → ℕ
calls_made calls = calls.made

-- the numbers of the calls that fail
abbrev pub calls_failing : ListedCalls → List ℕ
calls_failing calls = calls.failing.items

-- the bytes still to come of a source
abbrev pub listed_left : ListedSource → List ℕ
listed_left source = memory_left source.source

-- whether it has answered that it ended
abbrev pub listed_ended : ListedSource → Bool
listed_ended source = memory_ended source.source

-- how many reads were made
abbrev pub read_calls : ListedSource → ℕ
read_calls source = calls_made source.calls

-- the numbers of the reads that fail
abbrev pub read_failing : ListedSource → List ℕ
read_failing source = calls_failing source.calls

-- how many bytes one read gives at most
abbrev pub read_most : ListedSource → ℕ
read_most source = source.most

-- how many reads have failed
abbrev pub read_faults : ListedSource → ℕ
read_faults source = source.failed

-- the answer of a read: it fails where the call is listed, else it gives as many as there are, as there is room for,
-- and as one read may give
abbrev pub ListedGives : (listed : Bool) (most : ℕ) (left : List ℕ) (room : ℕ) → Result ℕ Failed → Type 0
ListedGives true most left room result = IsErr result
ListedGives false most left room result = result ≡ Ok (min (length left) (min room most))

-- the bytes that a sink got so far
abbrev pub listed_got : ListedSink → List ℕ
listed_got sink = memory_got sink.sink

-- how many bytes it has room for yet
abbrev pub listed_room : ListedSink → ℕ
listed_room sink = memory_room sink.sink

-- how many writes were made
abbrev pub write_calls : ListedSink → ℕ
write_calls sink = calls_made sink.calls

-- the numbers of the writes that fail
abbrev pub write_failing : ListedSink → List ℕ
write_failing sink = calls_failing sink.calls

-- how many writes have failed
abbrev pub write_faults : ListedSink → ℕ
write_faults sink = sink.failed

-- the answer of a write: it fails and takes nothing where the call is listed, else it takes what fits, and fails where
-- there is a byte and no room
abbrev pub ListedTakes : (listed : Bool) (room : ℕ) (bytes : List ℕ) → Result ℕ Failed → (room_after : ℕ) → Type 0
ListedTakes true room bytes result after = IsErr result × (after ≡ room)
ListedTakes false room bytes result after = TakesWhatFits room bytes result after

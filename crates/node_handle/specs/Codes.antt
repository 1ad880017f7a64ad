-- API: the numbers by which calls answer, as `include/otn.h` has them.
use Rattle.std.specs.Prelude.{ℕ, Result, Ok, Err}
use Rattle.otn_base.specs.declared.memory.Memory.{Memory}
use Rattle.live_node.specs.declared.live_node.Turned.{Turned}
use Rattle.live_node.specs.declared.live_node.Turned.TheVariants as turned
use Rattle.live_node.specs.declared.places.HandedIn.{HandedIn}
use Rattle.live_node.specs.declared.places.HandedIn.TheVariants as handed

-- carried out; the plan is refused; no memory; too little room; no node to call
abbrev pub done : ℕ
done = 0

abbrev pub refused : ℕ
refused = 3

abbrev pub no_memory : ℕ
no_memory = 7

abbrev pub no_room : ℕ
no_room = 8

abbrev pub no_call : ℕ
no_call = 9

-- an input lacks something for the turn; all turns were done; no such port; no whole frames or lines
abbrev pub waits : ℕ
waits = 10

abbrev pub over : ℕ
over = 11

abbrev pub no_port : ℕ
no_port = 12

abbrev pub not_whole : ℕ
not_whole = 13

-- of handing in, and of a turn
abbrev pub handed_code : Result HandedIn Memory → ℕ
handed_code (Ok handed.Taken) = done
handed_code (Ok handed.NoInput) = no_port
handed_code (Ok handed.NotWhole) = not_whole
handed_code (Err memory) = no_memory

abbrev pub turned_code : Result Turned Memory → ℕ
turned_code (Ok turned.Done) = done
turned_code (Ok (turned.Waits port)) = waits
turned_code (Ok turned.Over) = over
turned_code (Err memory) = no_memory

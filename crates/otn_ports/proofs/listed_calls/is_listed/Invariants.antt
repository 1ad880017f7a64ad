use Rattle.std.proofs.Common.{◌≡◌, drop}
use Rattle.otn_ports.specs.Listed.{is_listed}
use Rattle.otn_ports.proofs.listed_calls.is_listed.Given as goal

abbrev pub invariant-loop-listed : goal.invariant-loop-listed
invariant-loop-listed l = is_listed (drop l.listed-index l.list) l.number ≡ is_listed l.list l.number

use Rattle.std.proofs.Common.{◌≡◌, ◌≤◌, ◌+◌, ◌*◌, ◌++◌, take, codes, flat_map}
use Rattle.std.specs.Fmt.{decimal}
use Rattle.arrayvec.specs.ArrayString.{array_string_len}
use Rattle.line_view.proofs.lines.put_others.Given as goal

-- the numbers so far
abbrev pub invariant-loop-slot : goal.invariant-loop-slot
invariant-loop-slot l = record {
  text : l.text.bytes ≡ l.initial.text.bytes ++ flat_map (λ s. codes "," ++ decimal s) (take l.slot-index l.slots);
  most : array_string_len l.text ≤ array_string_len l.initial.text + 21 * l.slot-index;
}

use Rattle.std.proofs.Common.{◌≡◌, ◌≤◌, length, take, flat_map}
use Rattle.std.specs.Prelude.{string_bytes}
use Rattle.network_view.specs.NetworkText.{numbered, way_lines}
use Rattle.network_view.specs.Ways.{way_at}
use Rattle.network_view.proofs.text.lines_of_ways.Given as goal

-- the ways that end at the entries so far
abbrev pub invariant-loop-i : goal.invariant-loop-i
invariant-loop-i l = record {
  text : string_bytes l.text ≡ numbered (way_lines l.named) 1 (flat_map (way_at l.named.network (length l.legs)) (take l.i l.legs));
  count : l.count ≡ length (flat_map (way_at l.named.network (length l.legs)) (take l.i l.legs));
  most : l.count ≤ l.i;
}

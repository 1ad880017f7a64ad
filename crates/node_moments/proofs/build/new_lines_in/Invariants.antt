use Rattle.std.proofs.Common.{◌≡◌, ℕ, [], Some, slice_get, vec_len}
use Rattle.port_base.specs.Views.{InView}
use Rattle.line_side.specs.LineStands.{LineView, LineStands}
use Rattle.device_model.specs.Entries.{form_in}
use Rattle.node_moments.proofs.build.new_lines_in.Given as goal

abbrev pub invariant-loop-a : goal.invariant-loop-a
invariant-loop-a l = record {
  len : vec_len l.lines ≡ l.a;
  stands : (k : ℕ) (line : LineView) → slice_get l.lines.items k ≡ Some line → (first : InView) → LineStands (form_in l.plan k) first first [] 0 line;
  pieces : (k : ℕ) (line : LineView) → slice_get l.lines.items k ≡ Some line → line.pieces ≡ 0;
}

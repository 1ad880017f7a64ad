use Rattle.std.proofs.Common.{◌≡◌, ℕ, [], Some, slice_get, vec_len}
use Rattle.port_base.specs.Views.{OutView}
use Rattle.line_side.specs.LineOutput.{LineOutView, LineMade}
use Rattle.device_model.specs.Entries.{form_out}
use Rattle.node_moments.proofs.build.new_lines_out.Given as goal

abbrev pub invariant-loop-b : goal.invariant-loop-b
invariant-loop-b l = record {
  len : vec_len l.lines ≡ l.b;
  made : (k : ℕ) (line : LineOutView) → slice_get l.lines.items k ≡ Some line → (first : OutView) → LineMade k (form_out l.plan k) first first [] line;
}

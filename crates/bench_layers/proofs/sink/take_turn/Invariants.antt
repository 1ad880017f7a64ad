use Rattle.std.proofs.Common.{◌≡◌}
use Rattle.otn_base.specs.declared.line_kind.LineKind.TheVariants.{Otu2}
use Rattle.bench_layers.proofs.sink.take_turn.Given as goal

abbrev pub invariant-loop-n : goal.invariant-loop-n
invariant-loop-n l = record {
  taken : l.sink.taken ≡ l.n;
  kind : l.sink.slots.kind ≡ Otu2;
  slots : l.sink.slots ≡ l.fn.sink.slots;
}

use Rattle.std.proofs.Common.{◌≡◌}
use Rattle.std.specs.Prelude.{IsSome}
use Rattle.otn_base.specs.declared.line_kind.LineKind.TheVariants.{Otu2}
use Rattle.bench_layers.proofs.source.put_turn.Given as goal

abbrev pub invariant-loop-n : goal.invariant-loop-n
invariant-loop-n l = record {
  filled : l.source.filled ≡ l.n;
  begun : IsSome l.source.said;
  cnd : l.source.cnd ≡ 0;
  kind : l.source.slots.kind ≡ Otu2;
  slots : l.source.slots ≡ l.fn.source.slots;
}

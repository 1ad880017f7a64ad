use Rattle.std.proofs.Common.{◌≡◌, ◌*◌, length, vec_len}
use Rattle.otn_base.specs.declared.limits.TheConstants.{NOMINAL}
use Rattle.otn_base.specs.declared.line_kind.LineKind.TheVariants.{Otu2}
use Rattle.bench_layers.proofs.source.put.Given as goal

abbrev pub invariant-loop-turn : goal.invariant-loop-turn
invariant-loop-turn l = record {
  cnd : l.source.cnd ≡ 0;
  kind : l.source.slots.kind ≡ Otu2;
  slots : l.source.slots ≡ l.initial.source.slots;
  size : vec_len l.bytes ≡ length l.source.slots.list * NOMINAL;
}

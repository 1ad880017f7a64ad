use Rattle.std.proofs.Common.{◌≡◌, ◌+◌, ◌*◌, length, vec_len}
use Rattle.otn_base.specs.declared.limits.TheConstants.{GROUPS}
use Rattle.otn_base.specs.declared.line_kind.LineKind.TheVariants.{Otu2}
use Rattle.bench_layers.proofs.sink.take.Given as goal

abbrev pub invariant-loop-turn : goal.invariant-loop-turn
invariant-loop-turn l = record {
  taken : l.sink.taken ≡ 0;
  kind : l.sink.slots.kind ≡ Otu2;
  slots : l.sink.slots ≡ l.initial.sink.slots;
  room : vec_len l.into ≡ length l.sink.slots.list * (GROUPS + 1);
}

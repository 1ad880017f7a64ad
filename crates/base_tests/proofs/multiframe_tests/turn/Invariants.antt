use Rattle.std.proofs.Common.{◌≡◌, length}
use Rattle.std.specs.Prelude.{IsSomeAnd}
use Rattle.base_tests.proofs.multiframe_tests.turn.Given as goal

abbrev pub invariant-loop-mfas : goal.invariant-loop-mfas
invariant-loop-mfas l = record {
  kind : l.phase.kind ≡ l.fn.kind;
  taken : IsSomeAnd l.phase.alignment (λ a. length a.taken ≡ l.mfas-index);
}

use Rattle.std.proofs.Common.{◌≡◌, ◌+◌, ◌*◌, ◌≤◌, length, vec_len}
use Rattle.otn_base.specs.declared.limits.TheConstants.{GROUPS}
use Rattle.node_tests.proofs.over_a_line.turns_that_agree.Given as goal

abbrev pub invariant-loop-turn : goal.invariant-loop-turn
invariant-loop-turn l = record {
  agree : l.agree ≤ l.turn;
  pieces : l.line.pieces ≡ 0;
  taken : l.sink.taken ≡ 0;
  kind : l.line.kind ≡ l.fn.slots.kind;
  slots : l.sink.slots ≡ l.fn.slots;
  room : length l.fn.slots.list * (GROUPS + 1) ≤ vec_len l.into;
}

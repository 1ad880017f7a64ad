use Rattle.std.proofs.Common.{◌≡◌, ◌<◌, length}
use Rattle.std.specs.Prelude.{vec_len}
use Rattle.node_tests.proofs.sources.first_unlike.Given as goal

abbrev pub invariant-loop-turn : goal.invariant-loop-turn
invariant-loop-turn l = record {
  cnd : l.given.cnd < length l.given.slots.list;
  handed_cnd : l.handed.cnd < length l.given.slots.list;
  slots : l.given.slots ≡ l.initial.given.slots;
  handed_slots : l.handed.slots ≡ l.initial.given.slots;
  room : vec_len l.buffer ≡ vec_len l.initial.buffer;
}

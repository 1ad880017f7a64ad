use Rattle.std.proofs.Common.{◌≡◌, ◌≤◌, vec_len}
use Rattle.std.specs.Option.{ForSome}
use Rattle.node_tests.proofs.sinks.first_unlike.Given as goal

abbrev pub invariant-loop-turn : goal.invariant-loop-turn
invariant-loop-turn l = record {
  taken : l.copying.taken ≡ 0;
  slots : l.copying.slots ≡ l.initial.copying.slots;
  handing_taken : l.handing.taken ≡ 0;
  handing_slots : l.handing.slots ≡ l.initial.handing.slots;
  room : vec_len l.buffer ≡ vec_len l.initial.buffer;
  former : ForSome l.former (λ n. n ≤ 15232);
}

use Rattle.std.proofs.Common.{◌≡◌, ℕ, ◌*◌, ◌<◌, get_or}
use Rattle.otu_overhead.specs.Mask.{bits_from}
use Rattle.otu_overhead.proofs.mask.put_sequence.Given as goal

abbrev pub invariant-loop-byte : goal.invariant-loop-byte
invariant-loop-byte l = record {
  register : l.register ≡ bits_from (8 * l.byte-index) 16;
  put : (k : ℕ) → k < l.byte-index → get_or l.into k 0 ≡ bits_from (8 * k) 8;
}

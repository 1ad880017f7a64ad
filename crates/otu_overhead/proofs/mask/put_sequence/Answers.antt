use Rattle.std.proofs.Common.{◌≡◌, ◌≢◌, ◌+◌, ◌*◌, ◌/◌, ◌<◌, length, ap, ◌∙◌, arith, get_or-set_other, get_or-set_same, below_more}
use Rattle.otu_overhead.specs.Mask.{bits_from}
use Rattle.otu_overhead.proofs.Sequence.{begins, high_byte}
use Rattle.otu_overhead.proofs.mask.put_sequence.Goals as goal

pub loop-byte-init : goal.loop-byte-init
loop-byte-init c = record { register = begins; put = λ k h. absurd (omega (arith, h)) }

pub loop-byte-preserved : goal.loop-byte-preserved
loop-byte-preserved c =
    let at = c.loop-byte.byte-index in
    let is = c.loop-byte.invariant.register in
    let room : at < length c.loop-byte.into = omega arith in
    record {
      register = c.eight_bits_on-register.ensures (8 * at) is ∙ ap (λ n. bits_from n 16) (let e : 8 * at + 8 ≡ 8 * (at + 1) = omega arith in e);
      put = below_more _ _
          (λ k h. let ne : k ≢ at = omega arith in rw get_or-set_other (c.loop-byte.invariant.put k h))
          (rw get_or-set_same (ap (λ n. n / 256) is ∙ high_byte (8 * at)));
    }

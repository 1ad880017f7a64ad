use Rattle.std.proofs.Common.{◌+◌, ◌^◌, ◌<◌, subst, sym}
use Rattle.std.specs.Simd.Lanes.{chunk}
use Rattle.std.proofs.lemmas.Simd.{length-chunk, get_or-chunk}
use Rattle.crc_small.proofs.Vectors.{is_vector}
use Rattle.crc_small.proofs.long_message.load.Goals as goal

pub returns-clause-vector : goal.returns-clause-vector
returns-clause-vector c =
    let bytes = c.args.bytes.now in
    let at = c.args.at in
    is_vector (chunk at 16 bytes) (length-chunk at 16 bytes c.requires) (λ i l.
    subst (λ y. y < 2 ^ 8) (sym (get_or-chunk at 16 bytes i 0 l)) (c.type_inv.bytes (at + i)).fits)

pub returns-clause-bytes : goal.returns-clause-bytes
returns-clause-bytes c = λ j l. get_or-chunk c.args.at 16 c.args.bytes.now j 0 l

use Rattle.std.proofs.Common.{arith, sym}
use Rattle.turn_pieces.specs.Pieces.{open_at}
use Rattle.turn_pieces.proofs.Sums.{sum_zero, sum_next}
use Rattle.turn_pieces.proofs.pieces.Pieces.open_count.Goals as goal

pub loop-i-init : goal.loop-i-init
loop-i-init c = record { few = omega arith; sum = sym (sum_zero (open_at c.args.self.now)) }

pub loop-i-preserved : goal.loop-i-preserved
loop-i-preserved c =
    let e = c.open_at-count.ensures in
    record { few = omega arith; sum = omega (arith, sum_next (open_at c.args.self.now) c.loop-i.i) }

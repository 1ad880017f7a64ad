use Rattle.std.proofs.Common.{arith, inl, inr}
use Rattle.turn_pieces.specs.Pieces.{open_at}
use Rattle.turn_pieces.proofs.Sums.{sum_zero, sum_next}
use Rattle.turn_pieces.proofs.pieces.Pieces.nth_open.Goals as goal

pub loop-j-init : goal.loop-j-init
loop-j-init c = omega (arith, sum_zero (open_at c.args.self.now))

pub loop-j-preserved : goal.loop-j-preserved
loop-j-preserved c =
    let opened = c.open_at-open.ensures in
    let inv = c.loop-j.invariant in
    elim c.else-open-eq1.either [
      | inl w ↦ omega (arith, sum_next (open_at c.args.self.now) c.loop-j.j)
      | inr w ↦ omega (arith, sum_next (open_at c.args.self.now) c.loop-j.j)
    ]

use Rattle.std.proofs.Common.{rules, ◌≡◌, replicate}
use Rattle.turn_pieces.proofs.Sums.{alike_at}
use Rattle.turn_pieces.proofs.pieces.no_pieces.Goals as goal

pub returns-clause-each : goal.returns-clause-each
returns-clause-each c =
    let items : c.in_ok-vec.field-0.items ≡ replicate 40 0 = search rules in
    λ i. rw items (alike_at 40 i 0)

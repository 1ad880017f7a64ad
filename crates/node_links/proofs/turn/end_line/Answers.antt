use Rattle.std.proofs.Common.{refl, sym, subst}
use Rattle.node_links.specs.LineEnds.{ends_if}
use Rattle.node_links.proofs.turn.end_line.Goals as goal

pub returns-then-not-used : goal.returns-then-not-used
returns-then-not-used c = subst (λ b. ends_if b c.args.line.now c.args.line.now _) (sym c.if-not-used.true) (refl, refl)

pub returns : goal.returns
returns c =
    let e = c.end_turn.ensures in
    subst (λ b. ends_if b c.args.line.now c.end_turn.new.self c.end_turn.result) (sym c.if-not-used.false)
    (record {
      stands = e.stands;
      ending = e.ending;
      kind = e.kind;
      multiframe = λ now form first read t s given m. (e.turn now form first read t s given m).has_multiframe;
      pieces = e.pieces;
    })

use Rattle.std.proofs.Common.{◌≡◌, ◌∙◌, false, true, List, ℕ, sym, subst}
use Rattle.otn_base.specs.declared.kind.PortName.TheVariants as port
use Rattle.node_links.specs.Links.{takes_part}
use Rattle.node_links.specs.Moves.{EachLink, TookFrame}
use Rattle.node_links.proofs.LinkLaws.{both}
use Rattle.node_links.proofs.LinkFinds.{none_took, all_took}
use Rattle.node_links.proofs.lines_in.read_line.Goals as goal

pub returns-then-not-piece : goal.returns-then-not-piece
returns-then-not-piece g c =
    let line = c.piece.new.self in
    let off : line.has_frame ≡ false = sym c.piece.ensures.has_frame ∙ c.if-not-piece.true in
    record {
      stands = λ form first read t h. c.piece.ensures.stands form first read t h;
      pieces = c.piece.ensures.pieces;
      kind = c.piece.ensures.kind;
      expected = 0;
      expects = λ on. both line.has_frame on off;
      took = none_took c.args.past c.args.a line.has_frame _ c.args.links.now.items off;
    }

pub returns : goal.returns
returns g c =
    let line = c.piece.new.self in
    let on : line.has_frame ≡ true = sym c.piece.ensures.has_frame ∙ c.if-not-piece.false in
    let given = subst (λ (frame : List ℕ). EachLink (λ link then. TookFrame (takes_part c.args.past (port.LineIn c.args.a) link) (record { frame = frame; expected = c.expected.result }) link then) c.args.links.now.items c.hand_out.new.links.items)
    c.frame.ensures.hand c.hand_out.ensures in
    record {
      stands = λ form first read t h. c.piece.ensures.stands form first read t h;
      pieces = c.piece.ensures.pieces;
      kind = c.piece.ensures.kind;
      expected = c.expected.result;
      expects = λ on. c.expected.ensures.line;
      took = all_took c.args.past c.args.a line.has_frame _ c.args.links.now.items c.hand_out.new.links.items on given;
    }

use Rattle.std.proofs.Common.{arith, refl}
use Rattle.std.proofs.lemmas.List.{take_rest}
use Rattle.packet_text.specs.TextLines.{has_lf}
use Rattle.packet_text.proofs.Lists.{first_behind, none_behind}
use Rattle.packet_text.proofs.LineFeeds.{first_in_piece, piece_more}
use Rattle.packet_text.proofs.line_feed.first_lf.Goals as goal

pub loop-before-init : goal.loop-before-init
unfolding has_lf
loop-before-init c = record { within = omega arith; clean = refl }

pub returns-then-clean-lt-PIECE : goal.returns-then-clean-lt-PIECE
returns-then-clean-lt-PIECE c =
    let i = c.loop-before.invariant in
    let e = c.clean_bytes-clean.ensures in
    let less = c.if-clean-lt-PIECE.true in
    first_in_piece c.args.bytes.now c.loop-before.before _ (omega (arith, c.loop-before-test.true, i.within)) i.clean (omega (arith, less)) e.clean (e.stops (omega (arith, less)))

pub loop-before-preserved : goal.loop-before-preserved
loop-before-preserved c =
    let i = c.loop-before.invariant in
    let e = c.clean_bytes-clean.ensures in
    record {
      within = omega (arith, c.loop-before-test.true, i.within);
      clean = piece_more c.args.bytes.now c.loop-before.before c.clean_bytes-clean.result (omega (arith, c.loop-before-test.true, i.within)) i.clean (omega (arith, c.if-clean-lt-PIECE.false, e.within)) e.clean;
    }

pub returns-in-Some : goal.returns-in-Some
returns-in-Some c =
    let at = c.loop-before.before in
    let i = c.loop-before.invariant in
    first_behind c.args.bytes.now at _ i.within i.clean (rw (take_rest c.args.bytes.now at) at c.in-Some.ensures)

pub returns-in-None : goal.returns-in-None
returns-in-None c =
    let at = c.loop-before.before in
    none_behind c.args.bytes.now at c.loop-before.invariant.clean (rw (take_rest c.args.bytes.now at) at c.in-None.ensures)

use Rattle.std.proofs.Common.{arith}
use Rattle.packet_text.proofs.LineFeeds.{lowest_found, prefix_clean, prefix_stops}
use Rattle.packet_text.proofs.line_feed.before_lf.Goals as goal

pub returns-clause-clean : goal.returns-clause-clean
returns-clause-clean c =
    let piece = c.args.piece.now in
    rw (c.lf_lanes.ensures, lowest_found piece c.requires.long c.requires.some) (prefix_clean piece)

pub returns-clause-stops : goal.returns-clause-stops
returns-clause-stops c =
    let piece = c.args.piece.now in
    rw (c.lf_lanes.ensures, lowest_found piece c.requires.long c.requires.some) (λ h. prefix_stops piece (omega (arith, h, c.requires.long)))

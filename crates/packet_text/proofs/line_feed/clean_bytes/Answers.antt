use Rattle.packet_text.proofs.LineFeeds.{none_in_whole}
use Rattle.packet_text.proofs.line_feed.clean_bytes.Goals as goal

pub returns-then-is_clean-clause-clean : goal.returns-then-is_clean-clause-clean
returns-then-is_clean-clause-clean c = none_in_whole c.args.piece.now c.requires (c.is_clean.ensures.none c.if-is_clean.true)

use Rattle.std.proofs.Common.{[], subst}
use Rattle.otn_base.specs.LineSlots.{LineSlots}
use Rattle.tributary_line.specs.FeedTurn.{FeedStands}
use Rattle.tributary_model.specs.Places.{tributary_of}
use Rattle.bundle_command.proofs.Turning.{turns_begin}
use Rattle.bundle_command.proofs.bundling.Bundling.new.Goals as goal

pub returns-clause-gone : goal.returns-clause-gone
returns-clause-gone c =
    turns_begin c.args.clients.now (record { framing = c.in_ok-framing.framing; feed = c.in_ok-feed.feed }) c.in_ok-framing.ensures
    (λ out. subst (λ (s : LineSlots). FeedStands (tributary_of s 1) out out [] c.in_ok-feed.feed) c.first_slot.ensures (c.in_ok-feed.ensures.stands out))
